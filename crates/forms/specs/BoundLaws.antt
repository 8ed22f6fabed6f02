-- How long a written line can be at most, from what its numbers and lists have at most.
use Rattle.std.specs.Prelude.{ℕ, ◌+◌, ◌≤◌, List, length}
use Rattle.std.proofs.Common.{arith}
use Rattle.forms.specs.Limits.{reply_limit}
use Rattle.forms.specs.Forms.{fields_text, outcome_text}
use Rattle.forms.specs.Held.{outcome_with}
use Rattle.forms.specs.TextLaws.{reply_size_lem}
use Rattle.forms.specs.Write.{reply_size}
use Rattle.forms.specs.declared.ReplyForm.{ReplyForm}
use Rattle.forms.specs.declared.ReplyForm.TheVariants.{Refused, Opened, Added, Finished, Withdrawn, Persisted}
use Rattle.forms.specs.declared.ReplyForm.TheVariants.{Stabilised, Shows, Restarted, Redone, Ended}

-- a longer list makes a longer reply
size_most : (f : ReplyForm) (a b : ℕ) → a ≤ 1344 → b ≤ 1344 → reply_size f a b ≤ reply_size f 1344 1344
unfolding reply_size
size_most (Refused r) a b h k = omega arith
size_most Opened a b h k = omega arith
size_most Added a b h k = omega arith
size_most (Finished n overtaken) a b h k = omega arith
size_most Withdrawn a b h k = omega arith
size_most Persisted a b h k = omega arith
size_most Stabilised a b h k = omega arith
size_most (Shows s) a b h k = omega arith
size_most (Restarted lines used) a b h k = omega arith
size_most (Redone ran examined) a b h k = omega arith
size_most Ended a b h k = omega arith

pub reply_most : (f : ReplyForm) (xs ys : List ℕ) → length (fields_text xs) ≤ 1344 → length (fields_text ys) ≤ 1344
    → reply_size f 1344 1344 ≤ reply_limit → length (outcome_text (outcome_with f xs ys)) + 1 ≤ reply_limit
reply_most f xs ys h k most =
    omega (arith, reply_size_lem f xs ys, size_most f (length (fields_text xs)) (length (fields_text ys)) h k, most)

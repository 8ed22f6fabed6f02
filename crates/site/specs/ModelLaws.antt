-- The laws through which every call goes: what a site holds is its view, and so it is valid.
use Rattle.std.specs.Prelude.{ℕ, ◌+◌, ◌≡◌, refl, true, List, [], length, drop}
use Rattle.std.proofs.Common.{arith, sym, ap, ap₂, subst, ◌∙◌}
use Rattle.forms.specs.Forms.{Answer, Accepted}
use Rattle.forms.specs.Held.{Numbers, listed, numbers_of, Replied, replied, outcome_with, outcome_of}
use Rattle.forms.specs.Limits.{live_limit}
use Rattle.rule_laws.specs.KeptLaws.{good_reads}
use Rattle.rule_laws.specs.WeaveLaws.{dids-weave}
use Rattle.rule_laws.specs.GoodLaws.{good-step}
use Rattle.forms.specs.declared.Refusal.{Refusal}
use Rattle.forms.specs.declared.ReplyForm.{ReplyForm}
use Rattle.rules.specs.Log.{dids, stables_of, read_log}
use Rattle.rules.specs.State.{State, Reply, refused, ok, lines_in, settle}
use Rattle.rules.specs.Checks.{check}
use Rattle.rules.specs.Calls.{Call, unless, writable, perform, step}
use Rattle.rules.specs.Within.{step_within}
use Rattle.rule_laws.specs.WithinLaws.{step-own}
use Rattle.rule_laws.specs.Good.{Good}
use Rattle.history.specs.declared.History.{History}
use Rattle.history.specs.declared.Entry.{Entry}
use Rattle.history.specs.Words.{PastKept}
use Rattle.table.specs.declared.Table.{Table}
use Rattle.table.specs.Order.{tally}
use Rattle.table.specs.Tables.{live_numbers, Owns, Frame}
use Rattle.site.specs.declared.Site.{Site}
use Rattle.site.specs.declared.CallResult.{CallResult}
use Rattle.site.specs.Representation.{Representation, lines_of_journal, lines_read, base_of_journal, base_read, state_of, Carries}
use Rattle.site.specs.Representation.{Represents, Sound}
use Rattle.site.specs.Model.{Lent, lent, represented, view, Few, NumberOnly, Says, RefusedAs, DoesWith, Does, Steps, StepsWithin}

-- ### Replies

-- A list that can be printed, and its numbers.
pub record Means (n : Numbers) (l : List ℕ) : Type 0 where
  pub fits : Few n
  pub list : numbers_of n ≡ l

pub means_is : {n : Numbers} {l k : List ℕ} → Means n l → l ≡ k → Means n k
means_is {n} a e = subst (Means n) e a

-- no numbers, in any array
pub means_none : (ws : List ℕ) → Means (listed 0 ws) []
unfolding numbers_of
means_none ws = record { fits = record { few = omega arith; within = omega arith }; list = refl }

-- A reply says what its form and its lists mean.
pub says_lists : (r : Replied) (xs ys : List ℕ) → Means r.first xs → Means r.second ys → NumberOnly (outcome_with r.form xs ys) r →
    Says r (outcome_with r.form xs ys)
unfolding outcome_of
says_lists r xs ys a b only =
    record {
      outcome = ap₂ (outcome_with r.form) a.list b.list;
      printable = record { first = a.fits; second = b.fits };
      number_only = only;
    }

-- A reply that counts no numbers has empty lists, whatever its form.
pub alone_none : (f : ReplyForm) (xs ys : List ℕ) →
    NumberOnly (outcome_with f [] []) (record { form = f; first = listed 0 xs; second = listed 0 ys })
unfolding outcome_with
alone_none (ReplyForm.Refused q) xs ys = (refl, refl)
alone_none ReplyForm.Opened xs ys = tt
alone_none ReplyForm.Added xs ys = tt
alone_none (ReplyForm.Finished n overtaken) xs ys = tt
alone_none ReplyForm.Withdrawn xs ys = tt
alone_none ReplyForm.Persisted xs ys = tt
alone_none ReplyForm.Stabilised xs ys = tt
alone_none (ReplyForm.Shows s) xs ys = tt
alone_none (ReplyForm.Restarted lines used) xs ys = tt
alone_none (ReplyForm.Redone ran examined) xs ys = tt
alone_none ReplyForm.Ended xs ys = tt

-- ### What a site holds

-- The lines that the bytes in use say.
pub lines_are : (s : Representation) (bytes : List ℕ) (st : State) → Represents s bytes st → lines_read s bytes ≡ lines_in st
lines_are s bytes st h = ap (λ (b : List ℕ). lines_of_journal (read_log b)) h.carries.text ∙ ap lines_of_journal (good_reads st h.good)

-- .. and the base line
pub base_are : (s : Representation) (bytes : List ℕ) (st : State) → Represents s bytes st → base_read s bytes ≡ st.base
base_are s bytes st h = ap (λ (b : List ℕ). base_of_journal (read_log b)) h.carries.text ∙ ap base_of_journal (good_reads st h.good)

-- What a site holds is its view.
pub view_is : (s : Representation) (bytes : List ℕ) (st : State) → Represents s bytes st → state_of s bytes ≡ st
view_is s bytes st h =
    λ i. record {
      histories = c.count i;
      room = c.room i;
      base = base_are s bytes st h i;
      log = (ap dids (lines_are s bytes st h) ∙ dids-weave st.log st.stables) i;
      stables = (ap stables_of (lines_are s bytes st h) ∙ c.stables) i;
      pending = c.pending i;
      waiting = c.waiting i;
      persistent_to = c.persistent i;
      left_to = c.left i;
      restoring = c.restoring i;
    }
  where
    c : Carries s bytes st
    c = h.carries

-- A site that holds a state is valid.
pub valid_is : (s : Representation) (bytes : List ℕ) (st : State) → Represents s bytes st → Sound s bytes
unfolding Sound
valid_is s bytes st h = subst (Represents s bytes) (sym (view_is s bytes st h)) h

-- the site with these numbers of its histories
abbrev pub with_book : List History → List ℕ → List ℕ → List ℕ → Representation → Representation
with_book histories persisted stabilised busy w =
    record {
      count = w.count;
      used = w.used;
      head = w.head;
      base = w.base;
      done = w.done;
      persistent = w.persistent;
      stable = w.stable;
      left = w.left;
      restoring = w.restoring;
      reserved = w.reserved;
      histories = histories;
      persisted = persisted;
      stabilised = stabilised;
      busy = busy;
      queue = w.queue;
      finished = w.finished;
      marks = w.marks;
    }

-- .. which is the site itself, when they are the same
pub same_book : (w : Representation) {hs : List History} {ps ss bs : List ℕ} → hs ≡ w.histories → ps ≡ w.persisted → ss ≡ w.stabilised →
    bs ≡ w.busy → w ≡ with_book hs ps ss bs w
same_book w h p s b = λ i. with_book (sym h i) (sym p i) (sym s i) (sym b i) w

-- ### What a call does

-- A site with its tables after a call, and the reply.
pub record Taken : Type 0 where
  pub site : Representation
  pub reply : Replied

-- A call that the specification accepts: the site after it is sound and has the next state, and the bytes past those in use are as before.
pub record AcceptsCall (old : List ℕ) (x : Reply) (r : Taken) (new : List ℕ) : Type 0 where
  pub next : State
  pub answer : Answer
  pub accepted : x ≡ ok next answer
  pub says : Says r.reply (Accepted answer)
  pub sound : Sound r.site new
  pub state : state_of r.site new ≡ next
  pub past : drop r.site.used new ≡ drop r.site.used old

-- .. and so where the specification replies the same
pub accepts_as : {old : List ℕ} {x y : Reply} {r : Taken} {new : List ℕ} → x ≡ y → AcceptsCall old x r new → AcceptsCall old y r new
accepts_as {old} {x} {y} {r} {new} e a = subst (λ (z : Reply). AcceptsCall old z r new) e a

-- .. so too with these numbers of its histories, when they are the same
pub accepts_book : (old : List ℕ) (x : Reply) (w : Representation) (reply : Replied)
    (new : List ℕ) {hs : List History} {ps ss bs : List ℕ} →
    hs ≡ w.histories → ps ≡ w.persisted → ss ≡ w.stabilised → bs ≡ w.busy →
    AcceptsCall old x (record { site = w; reply = reply }) new →
    AcceptsCall old x (record { site = with_book hs ps ss bs w; reply = reply }) new
accepts_book old x w reply new h p s b a =
    subst (λ (z : Representation). AcceptsCall old x (record { site = z; reply = reply }) new) (same_book w h p s b) a

-- .. likewise the site with these rows
abbrev pub with_rows : List Entry → List ℕ → List Entry → Representation → Representation
with_rows finished marks queue w =
    record {
      count = w.count;
      used = w.used;
      head = w.head;
      base = w.base;
      done = w.done;
      persistent = w.persistent;
      stable = w.stable;
      left = w.left;
      restoring = w.restoring;
      reserved = w.reserved;
      histories = w.histories;
      persisted = w.persisted;
      stabilised = w.stabilised;
      busy = w.busy;
      queue = queue;
      finished = finished;
      marks = marks;
    }

pub accepts-rows : (old : List ℕ) (x : Reply) (w : Representation) (reply : Replied)
    (new : List ℕ) {f : List Entry} {k : List ℕ} {q : List Entry} → f ≡ w.finished → k ≡ w.marks → q ≡ w.queue →
    AcceptsCall old x (record { site = w; reply = reply }) new → AcceptsCall old x (record { site = with_rows f k q w; reply = reply }) new
accepts-rows old x w reply new f k q a =
    subst (λ (z : Representation). AcceptsCall old x (record { site = z; reply = reply }) new)
    (λ i. with_rows (sym f i) (sym k i) (sym q i) w) a

-- What a call keeps of a table: each entry has one place in the order and a row of its own, the entries have these numbers, and only rows
-- of entries that are live after the call differ.
pub record KeepsTable (numbers old : List ℕ) (t : Table) (order new : List ℕ) : Type 0 where
  pub owns : Owns t order new
  pub same : (e : ℕ) → tally e order ≡ tally e numbers
  pub frame : Frame (live_numbers t order) old new

-- .. and so it does what the specification replies.
pub does_with : (numbers : List ℕ) (s : Site) (old : Lent) (x : Reply) (r : CallResult) (new : Lent) →
    AcceptsCall old.log x (record { site = represented r.site new; reply = replied r.reply new.lists }) new.log →
    KeepsTable numbers old.rows r.site.table new.order new.rows →
    PastKept r.site.count old.book new.book →
    drop (r.reply.first + r.reply.second) new.lists ≡ drop (r.reply.first + r.reply.second) old.lists →
    DoesWith numbers s old x r new
does_with numbers s old x r new a k histories lists =
    subst (λ (y : Reply). DoesWith numbers s old y r new) (sym a.accepted)
    (record {
      answer = a.says;
      valid = record { sound = a.sound; owns = k.owns };
      state = a.state;
      past = a.past;
      frame = k.frame;
      same = k.same;
      past_histories = histories;
      past_lists = lists;
    })

-- .. a call of a site that is open
pub does : (s : Site) (old : Lent) (x : Reply) (r : CallResult) (new : Lent) →
    AcceptsCall old.log x (record { site = represented r.site new; reply = replied r.reply new.lists }) new.log →
    KeepsTable old.order old.rows r.site.table new.order new.rows →
    PastKept r.site.count old.book new.book →
    drop (r.reply.first + r.reply.second) new.lists ≡ drop (r.reply.first + r.reply.second) old.lists →
    Does s old x r new
does s old x r new = does_with old.order s old x r new

-- A call that the specification refuses: site and all that is lent are the very ones that came in.
pub refuses_with : (numbers : List ℕ) (s : Site) (old : Lent) (reply : Reply) (q : Refusal) (r : CallResult) → reply ≡ refused q →
    RefusedAs s old q r old → DoesWith numbers s old reply r old
refuses_with numbers s old reply q r e is = subst (λ (x : Reply). DoesWith numbers s old x r old) (sym e) is

pub refuses : (s : Site) (old : Lent) (reply : Reply) (q : Refusal) (r : CallResult) → reply ≡ refused q → RefusedAs s old q r old →
    Does s old reply r old
refuses s old = refuses_with old.order s old

-- .. the log too, where the writer found no room
pub refuses-full : (numbers : List ℕ) (s : Site) (old : Lent) (new : List ℕ) (reply : Reply) (q : Refusal) (r : CallResult) →
    reply ≡ refused q → new ≡ old.log → RefusedAs s old q r old →
    DoesWith numbers s old reply r (lent new old.rows old.order old.book old.lists)
refuses-full numbers s old new reply q r e f is =
    subst (λ (b : List ℕ). DoesWith numbers s old reply r (lent b old.rows old.order old.book old.lists)) (sym f)
    (refuses_with numbers s old reply q r e is)

-- A call that the specification accepts: the site after it holds the next state.
pub accepts_call : (old : List ℕ) (reply : Reply) (st : State) (a : Answer) (r : Taken) (new : List ℕ) → reply ≡ ok st a →
    Says r.reply (Accepted a) → Represents r.site new st → drop r.site.used new ≡ drop r.site.used old →
    AcceptsCall old reply r new
accepts_call old reply st a r new e says h past =
    record {
      next = st;
      answer = a;
      accepted = e;
      says = says;
      sound = valid_is r.site new st h;
      state = view_is r.site new st h;
      past = past;
    }

-- With 64 entries each call is that of a site alone.
pub steps_alone : (s : Site) (old : Lent) (c : Call) (r : CallResult) (new : Lent) → length old.order ≡ live_limit →
    StepsWithin s old c r new → Steps s old c r new
steps_alone s old c r new e d =
    subst (λ (x : Reply). Does s old x r new) (ap (λ (n : ℕ). step_within n c (view s old)) e ∙ step-own c (view s old)) d

-- A call whose numbers can be written is performed.
pub step_performs : (c : Call) (st : State) → writable c ≡ true → step c st ≡ perform c st
unfolding step check unless
step_performs c st e = rw e refl

-- A call that is accepted: the site after it carries the next state, which the specification's laws make good.
pub accepts-step : (s : Representation) (old : List ℕ) (c : Call) (st : State) (a : Answer) (r : Taken) (new : List ℕ) → Sound s old →
    step c (state_of s old) ≡ ok st a →
    Says r.reply (Accepted a) → Carries r.site new st → drop r.site.used new ≡ drop r.site.used old →
    AcceptsCall old (step c (state_of s old)) r new
unfolding Sound settle
accepts-step s old c st a r new v e says carries past =
    accepts_call old (step c (state_of s old)) st a r new e says (record { carries = carries; good = good }) past
  where
    good : Good st
    good = subst (λ (x : Reply). Good (settle x (state_of s old))) e (good-step c (state_of s old) v.good)

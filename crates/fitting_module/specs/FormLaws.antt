-- What a line's reading gives is the call that the line is: with what is held of its updates, and with the bytes of its did line.
use Rattle.std.specs.Prelude.{ℕ, ◌-◌, ◌≤◌, ◌≡◌, refl, Bool, not, List, [], ◌++◌, length, take, T}
use Rattle.std.specs.Prelude.{Option as Answer, Some}
use Rattle.std.proofs.Common.{arith, ap, subst, sym, ◌∙◌, length-append}
use Rattle.std.proofs.Math.Option.{Option, none, some}
use Rattle.std.proofs.Math.Seq.{take-append_seam}
use Rattle.forms.specs.Decimal.{Step, top}
use Rattle.forms.specs.Decimal.Step.{got, bad}
use Rattle.forms.specs.Lists.{all}
use Rattle.forms.specs.Words.{bytes}
use Rattle.forms.specs.Forms.{Update, Command, SiteOf, Add, Finish, Withdraw, Persistent, Stable, Show, Cut, Redo, End}
use Rattle.forms.specs.Forms.{Did, did_text, redo_text, command_text}
use Rattle.forms.specs.Held.{held_updates}
use Rattle.forms.specs.Reading.{read_command}
use Rattle.forms.specs.Read.{answer_of, command_answer}
use Rattle.forms.specs.Writable.{WritableCommand}
use Rattle.forms.specs.CommandLaws.{command_read}
use Rattle.fitting_module.specs.CommandSaid.{command_said}
use Rattle.forms.specs.declared.reader.CommandForm.{CommandForm}
use Rattle.forms.specs.declared.DidLine.{DidLine}
use Rattle.forms.specs.declared.Refusal.TheVariants.{Unreadable, OutOfTurn}
use Rattle.rules.specs.Checks.{check}
use Rattle.rules.specs.State.{State, Reply, refused}
use Rattle.rules.specs.Calls.{Call, unless, writable_update}
use Rattle.compact.specs.Module.{Module as ModuleState, slot_at, taken, meets_ten, readable, Move, call_at, reply_of, promise_of}
use Rattle.compact.specs.Module.{settle_in, next_of}
use Rattle.site.specs.Model.{Lent}
use Rattle.site.specs.Trim.{updates_held}
use Rattle.site.specs.TrimLaws.{updates_writable}
use Rattle.module.specs.declared.Module.{Module}
use Rattle.module.specs.declared.ModuleResult.{ModuleResult}
use Rattle.module.specs.Model.{view_of, around}
use Rattle.fitting_module.specs.HeldLaws.{add-held, held-add-writable}
use Rattle.fitting_module.specs.Lines.{move_of, move_in, line_move, line_reply, line_next, did_in, form_move, DoesCall, Obeys, ObeysForm}

-- ### An add

reply_held : (i id : ℕ) (us : List Update) (s : ModuleState) → id ≤ top → T (all writable_update us) →
    reply_of (Move.At i (Call.Add id (updates_held (held_updates us)))) s ≡ reply_of (Move.At i (Call.Add id us)) s
unfolding reply_of readable meets_ten
reply_held i id us s le w = go (slot_at i s).site
  where
    go : (x : Option State) → call_at x i (Call.Add id (updates_held (held_updates us))) s ≡ call_at x i (Call.Add id us) s
    go none = ap (λ (b : Bool). unless (check (not b) Unreadable none) (refused OutOfTurn)) (held-add-writable id us le w)
    go (some st) = add-held (taken i s) id us st le w

next-held : (i id : ℕ) (us : List Update) (s : ModuleState) → id ≤ top → T (all writable_update us) →
    next_of (Move.At i (Call.Add id (updates_held (held_updates us)))) s ≡ next_of (Move.At i (Call.Add id us)) s
unfolding next_of promise_of
next-held i id us s le w = ap (λ (y : Reply). settle_in i y (slot_at i s).promise s) (reply_held i id us s le w)

-- ### A redo

-- the bytes between the brackets
between : (d : List ℕ) → did_in (bytes "(redo " ++ (d ++ bytes ")")) ≡ d
between d =
    ap (λ (n : ℕ). take n (d ++ bytes ")")) count ∙ take-append_seam d (bytes ")")
  where
    count : length (bytes "(redo " ++ (d ++ bytes ")")) - 1 - 6 ≡ length d
    count = omega (arith, length-append (bytes "(redo ") (d ++ bytes ")"), length-append d (bytes ")"))

pub redo-bytes : (line : List ℕ) (d : Did) (rest : List ℕ) → read_command line ≡ got (Redo d) rest → did_in line ≡ did_text d
unfolding command_text redo_text
redo-bytes line d rest e = ap did_in (command_read line (Redo d) rest e).0 ∙ between (did_text d)

pub redo_long : (line : List ℕ) (c : CommandForm) → Some c ≡ command_answer (read_command line) → (q : DidLine) →
    c ≡ CommandForm.Redo q → 7 ≤ length line
unfolding command_text redo_text
redo_long line c e q f = let k = command_said line c e in go k.command k.read (sym k.form ∙ f)
  where
    go : (x : Command) → read_command line ≡ got x [] → answer_of x ≡ CommandForm.Redo q → 7 ≤ length line
    go (Redo d) p g =
        let z = ap length (command_read line (Redo d) [] p).0 in
        omega (arith, z, length-append (bytes "(redo ") (did_text d ++ bytes ")"), length-append (did_text d) (bytes ")"))
    go (SiteOf n) p g = absurd (cc)
    go (Add i us) p g = absurd (cc)
    go (Finish i) p g = absurd (cc)
    go (Withdraw i) p g = absurd (cc)
    go (Persistent n) p g = absurd (cc)
    go (Stable n) p g = absurd (cc)
    go (Show h) p g = absurd (cc)
    go (Cut k) p g = absurd (cc)
    go End p g = absurd (cc)

-- ### Every form

-- The two calls have the same reply, and leave the same module.
pub record SameCall (x y : Option Move) (s : ModuleState) : Type 0 where
  pub reply : line_reply x s ≡ line_reply y s
  pub next : line_next x s ≡ line_next y s

same : (x : Option Move) (s : ModuleState) → SameCall x x s
same x s = record { reply = refl; next = refl }

same_as : (x y : Option Move) (s : ModuleState) → x ≡ y → SameCall x y s
same_as x y s e = record { reply = ap (λ (z : Option Move). line_reply z s) e; next = ap (λ (z : Option Move). line_next z s) e }

reads : (i room : ℕ) (line : List ℕ) (c : Command) (rest : List ℕ) (s : ModuleState) → WritableCommand c →
    read_command line ≡ got c rest →
    SameCall (form_move i room line (command_answer (got c rest))) (some (move_of i room c)) s
unfolding form_move command_answer line_reply line_next
reads i room line (SiteOf n) rest s w e = same _ s
reads i room line (Add id us) rest s w e =
    let t = updates_writable us w.1 in
    record { reply = reply_held i id us s w.0 t; next = next-held i id us s w.0 t }
reads i room line (Finish id) rest s w e = same _ s
reads i room line (Withdraw id) rest s w e = same _ s
reads i room line (Persistent n) rest s w e = same _ s
reads i room line (Stable n) rest s w e = same _ s
reads i room line (Show h) rest s w e = same _ s
reads i room line (Cut k) rest s w e = same _ s
reads i room line (Redo d) rest s w e =
    same_as _ _ s (ap (λ (l : List ℕ). some (Move.At i (Call.Redo l))) (redo-bytes line d rest e))
reads i room line End rest s w e = same _ s

unread : (i room : ℕ) (line : List ℕ) (s : ModuleState) →
    SameCall (form_move i room line (command_answer bad)) none s
unfolding form_move command_answer
unread i room line s = same _ s

line_is : (i room : ℕ) (line : List ℕ) (s : ModuleState) →
    SameCall (form_move i room line (command_answer (read_command line))) (line_move i room line) s
unfolding line_move
line_is i room line s = go (read_command line) refl
  where
    go : (x : Step Command) → read_command line ≡ x →
        SameCall (form_move i room line (command_answer x)) (move_in i room x) s
    go (got c rest) e = reads i room line c rest s (command_read line c rest e).2 e
    go bad e = unread i room line s

-- What is done for the form that was read is done for the line.
pub obeys_line : (i : ℕ) (m : Module) (old : Lent) (line : List ℕ) (c : Answer CommandForm) (r : ModuleResult) (new : Lent) →
    c ≡ command_answer (read_command line) → ObeysForm i m old line c r new → Obeys i m (line_move i (length old.log) line) old r new
obeys_line i m old line c r new e h logs books v =
    let s = view_of m (around i old logs books) in
    let k = line_is i (length old.log) line s in
    subst (λ (y : Reply). DoesCall i m old logs books y (line_next (line_move i (length old.log) line) s) r new) k.reply
    (subst (λ (z : ModuleState). DoesCall i m old logs books (line_reply (by (command_answer (read_command line))) s) z r new) k.next
    (subst (λ (x : Answer CommandForm). ObeysForm i m old line x r new) e h logs books v))
  where
    by : Answer CommandForm → Option Move
    by x = form_move i (length old.log) line x

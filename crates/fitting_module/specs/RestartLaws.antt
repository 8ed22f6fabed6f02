-- What the module's restart hands back, with its counters put away, is what a restart of the slot asks for.
use Rattle.std.specs.Prelude.{ℕ, ◌≡◌, [], length}
use Rattle.std.proofs.Common.{sym, ap, subst, ◌∙◌}
use Rattle.forms.specs.Forms.{Refused, Accepted}
use Rattle.rules.specs.State.{Reply, refused, ok}
use Rattle.compact.specs.Module.{Module as ModuleState, Move, reply_of, next_of}
use Rattle.site.specs.Model.{Lent}
use Rattle.module.specs.declared.Module.{Module}
use Rattle.module.specs.declared.ModuleResult.{ModuleResult}
use Rattle.module.specs.Model.{ValidModule, ValidAnew, view_of, around, DoesFrom, MovesAnew}
use Rattle.call_words.specs.Answers.{outcome_number, form_number}
use Rattle.call_words.specs.AnswerLaws.{says-number}
use Rattle.fitting_module.specs.Words.{Words, module_at, words_in}
use Rattle.fitting_module.specs.WordLaws.{module_words}
use Rattle.fitting_module.specs.Model.{state_at, UnusedLeft}
use Rattle.fitting_module.specs.LineLaws.{bare}
use Rattle.fitting_module.specs.Restarts.{RestartsBy, before, ValidBefore, RestartsSlot}

module _ (i : ℕ) (ws : Words) (came : Lent) (k : ℕ) (r : ModuleResult) (new : Lent) where
  abbrev x : Move
  x = Move.Restart i came.log k

  -- The module after it has four slots.
  pub restart_size : (m : Module) → ValidAnew m i came → MovesAnew m x (bare came) r (bare new) → length r.after.slots ≡ 4
  restart_size m (log, book, (logs, books, v)) h = go (reply_of x s) (h log book logs books v)
    where
      s : ModuleState
      s = view_of m (around i (before log book came) logs books)

      go : (y : Reply) → DoesFrom m x (before log book came) (bare came) logs books y r (bare new) → length r.after.slots ≡ 4
      go (refused q) d = ap (λ (z : Module). length z.slots) d.same ∙ v.size
      go (ok st a) d = d.valid.size

  pub restarts : (m : Module) (after : Words) (n : ℕ) → m ≡ module_at ws → MovesAnew m x (bare came) r (bare new) →
      after ≡ words_in r.after.slots → n ≡ form_number r.reply.form → RestartsSlot i ws (bare came) k n after (bare new)
  unfolding outcome_number
  restarts m after n is h put e log book logs books v =
      go (reply_of x s) (subst (λ (z : Module). MovesAnew z x (bare came) r (bare new)) is h log book logs books v.valid)
    where
      s : ModuleState
      s = state_at ws (around i (before log book came) logs books)

      go : (y : Reply) → DoesFrom (module_at ws) x (before log book came) (bare came) logs books y r (bare new) →
          RestartsBy y (next_of x s) i ws (bare came) n after (bare new) logs books
      go (refused q) d =
          record {
            answer = e ∙ says-number r.reply [] (Refused q) d.answer;
            same =
                record {
                  counters = put ∙ ap (λ (z : Module). words_in z.slots) d.same ∙ v.words;
                  kept = d.kept;
                };
          }
      go (ok st a) d =
          let back : module_at after ≡ r.after = ap module_at put ∙ module_words r.after d.valid.size in
          record {
            answer = e ∙ says-number r.reply [] (Accepted a) d.answer;
            state = ap (λ (z : Module). view_of z (around i new logs books)) back ∙ d.state;
            valid =
                record {
                  words = ap (λ (z : Module). words_in z.slots) back ∙ sym put;
                  valid = subst (λ (z : Module). ValidModule z (around i new logs books)) (sym back) d.valid;
                };
            unused =
                subst (λ (z : Module). UnusedLeft i (bare came) z (bare new)) (sym back)
                (record { past = d.past; frame = d.frame; past_numbers = d.past_numbers; past_histories = d.past_histories });
          }

-- The module that valid counters are is valid with the site that the slot had.
pub before_valid : (i : ℕ) (m : Module) (ws : Words) (came : Lent) → m ≡ module_at ws → ValidBefore ws i came → ValidAnew m i came
before_valid i m ws came is (log, book, (logs, books, v)) =
    subst (λ (z : Module). ValidAnew z i came) (sym is) (log, book, (logs, books, v.valid))

-- A module as it is made, with its counters put away.
use Rattle.std.specs.Prelude.{ℕ, ◌*◌, ◌≡◌, List, [], length}
use Rattle.std.proofs.Common.{sym, ap, subst, ◌∙◌}
use Rattle.compact.specs.Module.{made}
use Rattle.table.specs.Rows.{row_width}
use Rattle.module.specs.declared.Module.{Module}
use Rattle.module.specs.Parts.{table_room}
use Rattle.module.specs.Model.{Memory, ValidModule, view_of}
use Rattle.module.specs.Start.{Starts as MadeAs, Made}
use Rattle.fitting_module.specs.Words.{Words, module_at, words_in}
use Rattle.fitting_module.specs.WordLaws.{module_words}
use Rattle.fitting_module.specs.Model.{state_at, ValidWords}

abbrev memory : List ℕ → List ℕ → (ℕ → List ℕ) → (ℕ → List ℕ) → Memory
memory rows numbers logs books = record { rows = rows; numbers = numbers; logs = logs; books = books }

pub record Begins (ws : Words) (b : Memory) : Type 0 where
  pub state : state_at ws b ≡ made
  pub valid : ValidWords ws b

-- The counters and numbers are those of a module in which no slot is opened, whatever rows, logs and words of histories there are.
abbrev pub Starts : Words → List ℕ → List ℕ → Type 0
Starts ws rows numbers = (logs books : ℕ → List ℕ) → Begins ws (memory rows numbers logs books)

pub made_size : (m : Module) (numbers : List ℕ) → Made m numbers → (rows : List ℕ) → length rows ≡ table_room * row_width →
    length m.slots ≡ 4
made_size m numbers M rows long = (M rows (λ j. []) (λ j. []) long).valid.size

pub starts : (m : Module) (ws : Words) (rows numbers : List ℕ) → Made m numbers → length rows ≡ table_room * row_width →
    ws ≡ words_in m.slots → Starts ws rows numbers
starts m ws rows numbers M long put logs books =
    record {
      state = ap (λ (k : Module). view_of k (memory rows numbers logs books)) is ∙ begun.state;
      valid =
          record {
            words = ap (λ (k : Module). words_in k.slots) is ∙ sym put;
            valid = subst (λ (k : Module). ValidModule k (memory rows numbers logs books)) (sym is) begun.valid;
          };
    }
  where
    begun : MadeAs m (memory rows numbers logs books)
    begun = M rows logs books long

    is : module_at ws ≡ m
    is = ap module_at put ∙ module_words m begun.valid.size

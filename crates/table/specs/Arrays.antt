-- Arrays with one element for each of the sixteen histories, and lists of histories that they single out.
use Rattle.std.specs.Prelude.{ℕ, ◌<◌, ◌≡◌, Bool, ◌&&◌, List, eqb, ltb, length, get_or}
use Rattle.forms.specs.Limits.{history_limit}
use Rattle.table.specs.declared.versions.Naming.{Naming}
use Rattle.table.specs.declared.versions.Naming.TheVariants.{Risen, Dried}

-- The array has f h for each history h; d stands past its end.
pub record Tabulates {A : Type 0} (d : A) (r : List A) (f : ℕ → A) : Type 0 where
  pub long : length r ≡ history_limit
  pub each : (h : ℕ) → h < history_limit → get_or r h d ≡ f h

-- "The reply names the histories whose persistent (stable) version rose": the version is greater after than before. "Persistent" and
-- "withdraw" also name those that became dry: there was an update that kept it from being dry, and there is none.
unfoldable pub names : Naming → ℕ → ℕ → Bool
names Risen before after = ltb before after
names Dried before after = ltb 0 before && eqb after 0

-- .. history h, by the numbers of all of them
abbrev pub singled : Naming → List ℕ → List ℕ → ℕ → Bool
singled naming before after h = names naming (get_or before h 0) (get_or after h 0)

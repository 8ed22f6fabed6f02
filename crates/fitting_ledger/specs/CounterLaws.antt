-- Counters that were written are read as they were.
use Rattle.std.specs.Prelude.{ℕ, ◌≡◌, refl, Bool, true, false, cond, List, [], ◌∷◌, eqb, set, get_or, drop, Option as Held, Some, None}
use Rattle.std.proofs.Common.{sym, ap, ap₂, subst, ◌∙◌}
use Rattle.std.proofs.lemmas.Option.{none-some, same_Some}
use Rattle.site.specs.declared.Site.{Site}
use Rattle.site.specs.Model.{Lent}
use Rattle.session.specs.declared.Session.{Session}
use Rattle.session.specs.Model.{ValidSession}
use Rattle.call_words.specs.Counters.{open_at, site_at, site_words, open_words, site_words_lem}
use Rattle.fitting_ledger.specs.Counters.{site_if, session_at, site_counters, held_counters, words_of, words_again}
use Rattle.fitting_ledger.specs.Model.{ValidState}

-- The session of a session's counters is that session.
pub session-words : (s : Session) → session_at (words_of s) ≡ s
unfolding session_at words_of site_at
session-words s = λ i. record { site = held s.site i }
  where
    held : (h : Held Site) → site_if (open_at (held_counters h)) (site_at (held_counters h)) ≡ h
    held (Some x) = ap₂ (λ (b : Bool) (y : Site). site_if b y) (open_words true x []) (site_words_lem true x [])
    held None = refl

pub session_of : (s : Session) (ws : List ℕ) → ws ≡ words_of s → session_at ws ≡ s
session_of s ws e = ap session_at e ∙ session-words s

-- They say what they say.
words-again : (s : Session) → words_again (words_of s) ≡ words_of s
unfolding words_of words_again site_at site_words
words-again s = held s.site
  where
    held : (h : Held Site) → site_words (open_at (held_counters h)) (site_at (held_counters h)) [] ≡ held_counters h
    held (Some x) = ap₂ (λ (b : Bool) (y : Site). site_words b y []) (open_words true x []) (site_words_lem true x [])
    held None = refl

-- The counters of a valid session are valid.
pub words_valid : (s : Session) (ws : List ℕ) (m : Lent) → ws ≡ words_of s → ValidSession s m → ValidState ws m
words_valid s ws m e v =
    record {
      words = ap words_again e ∙ words-again s ∙ sym e;
      session = subst (λ (x : Session). ValidSession x m) (sym (session_of s ws e)) v;
    }

-- .. and the session that valid counters are is valid
pub session_valid : (s : Session) (ws : List ℕ) (m : Lent) → s ≡ session_at ws → ValidState ws m → ValidSession s m
session_valid s ws m is v = subst (λ (x : Session). ValidSession x m) (sym is) v.session

-- The counters of an open site that the words say are the words.
pub opened-words : (ws : List ℕ) (s : Site) → words_again ws ≡ ws → (session_at ws).site ≡ Some s → site_counters s ≡ ws
unfolding session_at words_again
opened-words ws s w o = go (open_at ws) o w
  where
    go : (b : Bool) → site_if b (site_at ws) ≡ Some s → site_words b (site_at ws) [] ≡ ws → site_counters s ≡ ws
    go true e h = ap (λ (x : Site). site_words true x []) (sym (same_Some (site_at ws) s e)) ∙ h
    go false e h = absurd (none-some s e)

-- ### Without a site

-- Words that say that no site is open: the session has none.
pub closed-words : (ws : List ℕ) → (session_at (set ws 0 0)).site ≡ None
unfolding session_at
closed-words [] = refl
closed-words (w ∷ ws) = refl

-- They are counters as much as those before them.
pub closed-again : (ws : List ℕ) → words_again ws ≡ ws → words_again (set ws 0 0) ≡ set ws 0 0
unfolding words_again site_at site_words
closed-again [] e = e
closed-again (w ∷ ws) e = ap (λ (l : List ℕ). 0 ∷ drop 1 l) e

-- Where they said so before, they are the same.
pub closed-same : (ws : List ℕ) → words_again ws ≡ ws → (session_at ws).site ≡ None → set ws 0 0 ≡ ws
unfolding session_at words_again site_words
closed-same [] e o = refl
closed-same (w ∷ ws) e o = go (eqb w 1) o (ap (λ (l : List ℕ). get_or l 0 0) e)
  where
    go : (b : Bool) → site_if b (site_at (w ∷ ws)) ≡ None → cond b 1 0 ≡ w → 0 ∷ ws ≡ w ∷ ws
    go true q f = absurd (none-some (site_at (w ∷ ws)) (sym q))
    go false q f = ap (λ (x : ℕ). x ∷ ws) f

-- A session's counters as thirteen words.
use Rattle.std.specs.Prelude.{ℕ, Bool, true, false, List, [], set, replicate, Option as Held, Some, None}
use Rattle.site.specs.declared.Site.{Site}
use Rattle.session.specs.declared.Session.{Session}
use Rattle.call_words.specs.Counters.{open_at, site_at, site_words}

-- how many words they are
abbrev pub counter_words : ℕ
counter_words = 13

-- the site where it is open
abbrev pub site_if : Bool → Site → Held Site
site_if true s = Some s
site_if false s = None

-- The session whose counters are the words.
unfoldable pub session_at : List ℕ → Session
session_at ws = record { site = site_if (open_at ws) (site_at ws) }

-- The counters of an open site.
abbrev pub site_counters : Site → List ℕ
site_counters s = site_words true s []

-- .. of the site held: 0 each without one
abbrev pub held_counters : Held Site → List ℕ
held_counters (Some s) = site_counters s
held_counters None = replicate counter_words 0

-- .. of a session
unfoldable pub words_of : Session → List ℕ
words_of s = held_counters s.site

-- .. after a turn that came to the site held: without one they say that none is open, and are else as they were
abbrev pub counters_after : List ℕ → Held Site → List ℕ
counters_after ws (Some s) = site_counters s
counters_after ws None = set ws 0 0

-- The words of what words say, whether it is open or not.
unfoldable pub words_again : List ℕ → List ℕ
words_again ws = site_words (open_at ws) (site_at ws) []

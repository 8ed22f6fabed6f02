-- 01's log of 71 bytes, listed: computed from the definitions.
use Rattle.std.specs.Prelude.{ℕ, ◌≡◌, refl, List}
use Rattle.forms.specs.Words.{bytes}
use Rattle.forms.specs.Decimal.{digits_within, digits}
use Rattle.rules.specs.Log.{ended}
use Rattle.print_log.specs.Listing.{length_line, shown, listing_from, listing}

-- "Log: .. 9 + 37 + 25 = 71 bytes."
abbrev log71 : List ℕ
log71 = bytes "(site 2)\n(did 5 (inc 0 1 1 513)(not 1 0 1 0))\n(did 6 (set 1 4 2 1000))\n"

abbrev listing71 : List ℕ
listing71 = bytes "(site 2)\n    9\n(did 5 (inc 0 1 1 513)(not 1 0 1 0))\n    46\n(did 6 (set 1 4 2 1000))\n    71\n"

pub listed_71 : listing log71 ≡ listing71
unfolding listing listing_from shown length_line ended digits digits_within
listed_71 = refl

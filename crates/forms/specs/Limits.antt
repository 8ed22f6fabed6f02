-- The limits of documents 01 and 02, each once. The code has the same numbers in src/limits.rt.
use Rattle.std.specs.Prelude.{ℕ}

-- "A site has 1 to 16 histories, numbered from 0."
abbrev pub history_limit : ℕ
history_limit = 16

-- "At most 64 operations are live (waiting redo lines and operations not yet stable)."
abbrev pub live_limit : ℕ
live_limit = 64

-- "An operation has a 64-bit id and 1 to 4 updates, each in another history."
abbrev pub update_limit : ℕ
update_limit = 4

-- "unreadable line, or above 1,024 bytes without its end"
abbrev pub line_limit : ℕ
line_limit = 1024

-- 02 (c): "A profile becomes 64 bits and parts run 0 to 7": how many parts a profile has, a byte each.
abbrev pub part_limit : ℕ
part_limit = 8

-- 02 (c): "A did line has at most 312 bytes", its end among them.
abbrev pub did_limit : ℕ
did_limit = 312

-- 02 (h): "A base line may have 1,074 bytes with its end."
abbrev pub base_limit : ℕ
base_limit = 1074

-- 02 (h): the N of a base line is refused above 2^63.
abbrev pub base_top : ℕ
base_top = 9223372036854775808

-- "a log buffer at most 65,536"
abbrev pub log_limit : ℕ
log_limit = 65536

-- 02 (j): "W is chosen from 1 to 1,024".
abbrev pub window_limit : ℕ
window_limit = 1024

-- 02 (e): "a 65th record 10"
abbrev pub record_limit : ℕ
record_limit = 64

-- 02 (e): "up to eight sites"
abbrev pub sites_limit : ℕ
sites_limit = 8

-- What the longest reply has, its end among them: it has two lists of 64 numbers. 01 does not say it; the clause `bound` of `write_line` shows
-- it.
abbrev pub reply_limit : ℕ
reply_limit = 2741

-- Pairs in numbers, and chains through them: what a chain leaves out is in other buckets.
use Rattle.std.specs.Prelude.{◌≡◌, cond, List, ℕ, suc, ◌+◌, ◌*◌, ◌/◌, ◌%◌, ◌<◌, ◌≤◌, ltb, length, get_or, Option, Some, None}

-- how many pairs stand in some numbers
abbrev pub count_of : List ℕ → ℕ
count_of ws = length ws / 2

-- the number of pair p in column c: 0 for the line, 1 for what it is paired with
abbrev pub key_at : List ℕ → ℕ → ℕ → ℕ
key_at ws c p = get_or ws (2 * p + c) 0

-- the bucket of a number
abbrev pub bucket : ℕ → ℕ
bucket k = k % 4096

-- how many of so many pairs are chained
pub record ChainedOf (count m : ℕ) : Type 0 where
  pub most : m ≤ count
  pub within : m ≤ 12288
  pub all : m < count → m < 12288 → ⊥

-- x is the next pair of bucket b from `from` on, or the number of those chained
pub record Onward (ws : List ℕ) (c from b x : ℕ) : Type 0 where
  pub low : from ≤ x
  pub high : x ≤ count_of ws
  pub passed : (s : ℕ) → from ≤ s → s < x → bucket (key_at ws c s) ≡ b → ⊥
  pub here : x < count_of ws → x < 12288 → bucket (key_at ws c x) ≡ b

-- The chains of column c: where each bucket begins, and where it leads from each pair.
pub record Chained (ws : List ℕ) (c : ℕ) (ch : List ℕ) : Type 0 where
  pub heads : (b : ℕ) → b < 4096 → Onward ws c 0 b (get_or ch b 0)
  pub links : (p : ℕ) → p < count_of ws → p < 12288 → Onward ws c (suc p) (bucket (key_at ws c p)) (get_or ch (4096 + p) 0)
  pub small : (b : ℕ) → b < 4096 → get_or ch b 0 ≤ 12288
  pub links_small : (p : ℕ) → p < count_of ws → p < 12288 → get_or ch (4096 + p) 0 ≤ 12288

-- .. of the pairs from `from` on
pub record ChainedFrom (ws : List ℕ) (c from : ℕ) (ch : List ℕ) : Type 0 where
  pub size : length ch ≡ 16384
  pub most : from ≤ count_of ws
  pub within : from ≤ 12288
  pub heads : (b : ℕ) → b < 4096 → Onward ws c from b (get_or ch b 0)
  pub links : (p : ℕ) → from ≤ p → p < count_of ws → p < 12288 → Onward ws c (suc p) (bucket (key_at ws c p)) (get_or ch (4096 + p) 0)
  pub small : (b : ℕ) → b < 4096 → get_or ch b 0 ≤ 12288
  pub links_small : (p : ℕ) → from ≤ p → p < count_of ws → p < 12288 → get_or ch (4096 + p) 0 ≤ 12288

-- where a chain leads from pair p
unfoldable pub after_in : List ℕ → ℕ → ℕ
after_in ch p = cond (ltb p 12288) (get_or ch (4096 + p) 0) (p + 1)

-- .. that is small
pub record CanFollow (ch : List ℕ) (p : ℕ) : Type 0 where
  pub low : p < 18446744073709551615
  pub small : p < 12288 → get_or ch (4096 + p) 0 ≤ 12288

-- a walk along the chain of a key can start here
pub record Starts (ws : List ℕ) (c key from : ℕ) : Type 0 where
  pub within : from ≤ count_of ws
  pub here : from < count_of ws → from < 12288 → bucket (key_at ws c from) ≡ bucket key

-- r is the first pair from `from` on that has the key in column c, or the number of pairs
pub record Found (ws : List ℕ) (c key from r : ℕ) : Type 0 where
  pub low : from ≤ r
  pub within : r ≤ count_of ws
  pub passed : (s : ℕ) → from ≤ s → s < r → key_at ws c s ≡ key → ⊥
  pub here : r < count_of ws → key_at ws c r ≡ key

-- .. if there is one
abbrev pub FoundIf : List ℕ → ℕ → ℕ → ℕ → Option ℕ → Type 0
FoundIf ws c key from (Some r) = Found ws c key from r × (r < count_of ws)
FoundIf ws c key from None = Found ws c key from (count_of ws)

-- how far a walk has come
pub record FindsTo (ws : List ℕ) (c key from q : ℕ) : Type 0 where
  pub low : from ≤ q
  pub starts : Starts ws c key q
  pub passed : (s : ℕ) → from ≤ s → s < q → key_at ws c s ≡ key → ⊥

-- q is the next pair behind p with its transaction, or behind the last one the first
pub record Ring (ws : List ℕ) (p q : ℕ) : Type 0 where
  pub within : q < count_of ws
  pub next : ℕ
  pub behind : Found ws 1 (key_at ws 1 p) (suc p) next
  pub onward : next < count_of ws → q ≡ next
  pub again : count_of ws ≤ next → Found ws 1 (key_at ws 1 p) 0 q

-- every bucket before b begins at m
pub record Filled (m b : ℕ) (ch : List ℕ) : Type 0 where
  pub size : length ch ≡ 16384
  pub heads : (k : ℕ) → k < b → get_or ch k 0 ≡ m

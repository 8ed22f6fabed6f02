-- What the code's walk removes is what the paper's rules remove: from a line along a history every later line is reached, and round a
-- transaction each of its lines.
use Rattle.std.specs.Prelude.{◌≡◌, refl, ◌&&◌, List, [], ◌∷◌, map, ltb, leb}
use Rattle.std.proofs.Math.Path.{sym, ap, subst}
use Rattle.std.proofs.Common.{◌∙◌, eq-or-lt_of_le, lt→ltb}
use Rattle.std.proofs.Math.Logic.{⊎_elim}
use mathlib.Core.List.Memᴰ
use mathlib.Core.List.Memᴰ.{head as head_of}
use mathlib.Core.List.Memᴰ.{tail as Tail-of}
use mathlib.Core.List.{Memᴰ as Mem}
use Prim.Native.Nat.{ℕ, zero, suc, ◌+◌, ◌-◌, ◌*◌, ◌/◌, ◌%◌, ◌<◌, ◌≤◌}
use native.Mathlib.Omega.{arith}
use Rattle.std.proofs.Math.Dec.{T, ltb→lt, leb→le}
use Rattle.std.proofs.Math.ListN.{length, get_or}
use Rattle.forms.specs.Forms.{Change, Did}
use Rattle.forms.specs.Limits.{base_top, history_limit, update_limit}
use Rattle.forms.specs.ListLaws.{and_intro, and_left, and_right}
use Rattle.forms.specs.Read.{no_did}
use Rattle.rules.specs.Book.{touches}
use Rattle.rule_laws.specs.BookLaws.{touches_of, touches_at}
use Rattle.recovery.specs.Claim.{shares}
use Rattle.recovery.proofs.Ending.{shares_of, shares_at}
use Rattle.recovery.specs.Removal.{is_line, line_at, pairs_of, by_history, by_transaction, Removed}
use Rattle.recovery.specs.Removal as rule
use Rattle.recovery.proofs.RemovalLaws.{Named, line_of, line_at_lem, together_at, together_of, removed_line}
use Rattle.removal.specs.Chains.{count_of, key_at, Found, Ring}
use Rattle.removal.specs.ChainLaws.{less_or, ring_next, ring_again, ring_same}
use Rattle.removal.specs.Fall.{Net, net, lines_in, line_in, onward, around, Fallen, itself, taken, Placed, Lost}
use Rattle.removal.specs.Names.{known, PairsKnown, LostKnown}
use Rattle.removal.specs.Slots.{history_at, SlotsAre}
use Rattle.removal.specs.PairLaws.{mem-place, place-mem, pair_at, pair_place, place_pair, next_of, next_most}

-- ### Histories of a did line

history_touch : (d : Did) (u h : ℕ) → history_at d u ≡ h → h < history_limit → T (touches h d)
unfolding history_at
history_touch d u h e lt = go d.changes u (λ x m. touches_of d m) e
  where
    go : (xs : List Change) (u : ℕ) → ((x : Change) → Mem x xs → T (touches x.history d)) →
        get_or (map (λ (x : Change). x.history) xs) u history_limit ≡ h →
        T (touches h d)
    go [] u f e' = absurd (omega (arith, e', lt))
    go (x ∷ xs) zero f e' = subst (λ (k : ℕ). T (touches k d)) e' (f x (head_of refl))
    go (x ∷ xs) (suc u) f e' = go xs u (λ y m. f y (Tail-of m)) e'

record Touch (d : Did) (h : ℕ) : Type 0 where
  update : ℕ
  within : update < length d.changes
  is : history_at d update ≡ h

touch_history : (d : Did) (h : ℕ) → T (touches h d) → Touch d h
unfolding history_at
touch_history d h t = let q = touches_at h d t in go d.changes q.0 q.1 q.2 (λ u l e. record { update = u; within = l; is = e })
  where
    go : (xs : List Change) (x : Change) → Mem x xs → x.history ≡ h →
        ((u : ℕ) → u < length xs → get_or (map (λ (x : Change). x.history) xs) u history_limit ≡ h → Touch d h) → Touch d h
    go [] x m e f = absurd (Memᴰ.not-nil m)
    go (y ∷ xs) x m e f = ⊎_elim
        (λ z. f 0 (omega arith) (ap (λ (c : Change). c.history) (sym z) ∙ e))
        (λ k. go xs x k e (λ u l p. f (suc u) (omega (arith, l)) p))
        (Memᴰ.cases_cons m)

-- ### The walk and the rules

-- a log, its slots, pairs and lines lost
pub record Laid (N : ℕ) (log : List Did) (slots pairs lost : List ℕ) : Type 0 where
  pub size : length slots ≡ 8 * length log
  pub few : length log ≤ 2978
  pub low : N ≤ base_top
  pub are : SlotsAre N log slots
  pub changes : (i : ℕ) → i < length log → length (get_or log i no_did).changes ≤ update_limit
  pub histories : (i u : ℕ) → i < length log → u < length (get_or log i no_did).changes → history_at (get_or log i no_did) u < history_limit
  pub pairs_known : PairsKnown pairs N (N + length log)
  pub lost_known : LostKnown lost N (N + length log)

module _ (N : ℕ) (log : List Did) (slots pairs lost : List ℕ) (L : Laid N log slots pairs lost) where
  abbrev g : Net
  g = net slots pairs N

  abbrev Out : ℕ → Type 0
  Out = Removed N log (pairs_of pairs) lost

  lines_are : lines_in slots ≡ length log
  lines_are = omega (arith, L.size)

  slots_are : count_of slots ≡ 4 * length log
  slots_are = omega (arith, L.size)

  slot_number : (p : ℕ) → p < count_of slots → key_at slots 0 p ≡ N + 1 + p / 4
  slot_number p lt =
      ap (λ (i : ℕ). get_or slots i 0) (let e : 2 * p + 0 ≡ 8 * (p / 4) + 2 * (p % 4) = omega arith in e)
      ∙ L.are.numbers (p / 4) (p % 4) (omega (arith, lt, slots_are)) (omega arith)

  slot_history : (p : ℕ) → p < count_of slots → key_at slots 1 p ≡ history_at (get_or log (p / 4) no_did) (p % 4)
  slot_history p lt =
      ap (λ (i : ℕ). get_or slots i 0) (let e : 2 * p + 1 ≡ 8 * (p / 4) + 2 * (p % 4) + 1 = omega arith in e)
      ∙ L.are.histories (p / 4) (p % 4) (omega (arith, lt, slots_are)) (omega arith)

  slot_line : (p : ℕ) → p < count_of slots → line_in N slots p ≡ p / 4
  slot_line p lt = omega (arith, slot_number p lt)

  known_at : (k : ℕ) → T (known N (N + length log) k) → (N < k) × (k ≤ N + length log)
  unfolding known
  known_at k t = (
    ltb→lt N k (and_left (ltb N k) (leb k (N + length log)) t),
    leb→le k (N + length log) (and_right (ltb N k) (leb k
        (N + length log)) t),
  )

  pub laid_placed : Placed g
  laid_placed =
      record {
        most = omega (arith, lines_are, L.few);
        low = L.low;
        slots = λ p l. omega (arith, slot_number p l);
        slots_there = λ p l. omega (arith, slot_line p l, l, slots_are, lines_are);
        pairs = λ p l. (known_at (key_at pairs 0 p) (L.pairs_known p l)).0;
        pairs_there = λ p l. let q = known_at (key_at pairs 0 p) (L.pairs_known p l) in omega (arith, q.0, q.1, lines_are);
      }

  pub laid_lost : Lost slots N lost
  laid_lost =
      record {
        above = λ p l. (known_at (get_or lost p 0) (L.lost_known p l)).0;
        there = λ p l. let q = known_at (get_or lost p 0) (L.lost_known p l) in omega (arith, q.0, q.1, lines_are);
      }

  -- a line by its number, counted from 0
  line-here : (k : ℕ) → line_at N log (N + 1 + k) ≡ get_or log k no_did
  unfolding line_at
  line-here k = ap (λ (i : ℕ). get_or log i no_did) (let e : N + 1 + k - suc N ≡ k = omega arith in e)

  -- ### What the walk takes, the rules take

  sound_onward : (k p q : ℕ) → Out (N + 1 + k) → k < length log → 4 * k ≤ p → p < 4 * k + 4 → key_at slots 1 p < history_limit →
      Found slots 1 (key_at slots 1 p) (suc p) q → q < count_of slots → Out (N + 1 + q / 4)
  unfolding by_history
  sound_onward k p q r lk a b h F l = ⊎_elim
      (λ e. subst Out (let z : N + 1 + k ≡ N + 1 + q / 4 = omega (arith, e) in z) r)
      (λ lt. rule.later r
      (and_intro (ltb (N + 1 + k) (N + 1 + q / 4) && is_line N log (N + 1 + q / 4)) (shares (line_at N log (N + 1 + k)) (line_at N log
      (N + 1 + q / 4)))
      (and_intro (ltb (N + 1 + k) (N + 1 + q / 4)) (is_line N log (N + 1 + q / 4))
      (lt→ltb (N + 1 + k) (N + 1 + q / 4) (omega (arith, lt)))
      (line_of N log (N + 1 + q / 4) (omega arith) (omega (arith, l, slots_are))))
      (shares_of (key_at slots 1 p) (line_at N log (N + 1 + k)) (line_at N log (N + 1 + q / 4))
      (subst (λ (d : Did). T (touches (key_at slots 1 p) d)) (sym (line-here (q / 4)))
      (history_touch (get_or log (q / 4) no_did) (q % 4) (key_at slots 1 p) (sym (slot_history q l) ∙ F.here l) h))
      (subst (λ (d : Did). T (touches (key_at slots 1 p) d)) (sym (line-here k ∙ own))
      (history_touch (get_or log (p / 4) no_did) (p % 4) (key_at slots 1 p) (sym (slot_history p lp)) h)))))
      (eq-or-lt_of_le (let c = F.low in let z : k ≤ q / 4 = omega (arith, c, a) in z))
    where
      lp : p < count_of slots
      lp = omega (arith, b, lk, slots_are)

      own : get_or log k no_did ≡ get_or log (p / 4) no_did
      own = ap (λ (i : ℕ). get_or log i no_did) (let e : k ≡ p / 4 = omega (arith, a, b) in e)

  sound_around : (k p q : ℕ) → Out (N + 1 + k) → p < count_of pairs → key_at pairs 0 p ≡ N + 1 + k → Ring pairs p q →
      Out (N + 1 + line_in N pairs q)
  sound_around k p q r l e R =
      let z = laid_placed.pairs q R.within in
      rule.together r
      (together_of (pairs_of pairs) (N + 1 + k) (N + 1 + line_in N pairs q) (record {
        its = pair_at pairs p;
        other = pair_at pairs q;
        its_there = place_pair pairs p l;
        other-there = place_pair pairs q R.within;
        its_line = e;
        other-line = omega (arith, z);
        same = ring_same pairs p q R;
      }))

  fallen_line : (k : ℕ) → Fallen g lost k → k < length log
  fallen_line k (itself p l) = let z = laid_lost.there p l in omega (arith, z, lines_are)
  fallen_line k (taken r (onward p q a b h F l e)) = let z = laid_placed.slots_there q l in omega (arith, z, e, lines_are)
  fallen_line k (taken r (around p q l h R e)) = let z = laid_placed.pairs_there q R.within in omega (arith, z, e, lines_are)

  pub fallen_out : (k : ℕ) → Fallen g lost k → Out (N + 1 + k)
  fallen_out k (itself p l) =
      rule.itself (subst (λ (x : ℕ). Mem x lost) (let z = laid_lost.above p l in let e : get_or lost p 0 ≡ N + 1 + k = omega
      (arith, z) in e) (place-mem lost p l))
  fallen_out k (taken {k = i} r (onward p q a b h F l e)) =
      subst (λ (x : ℕ). Out (N + 1 + x)) (sym (slot_line q l) ∙ e) (sound_onward i p q (fallen_out i r) (fallen_line i r) a b h F l)
  fallen_out k (taken {k = i} r (around p q l h R e)) =
      subst (λ (x : ℕ). Out (N + 1 + x)) e (sound_around i p q (fallen_out i r) l h R)

  -- ### What the rules take, the walk reaches

  abbrev Down : ℕ → Type 0
  Down k = Fallen g lost k

  -- along a history
  along : (fuel s t : ℕ) → Down (s / 4) → s < t → t ≤ s + fuel → t < count_of slots → key_at slots 1 s < history_limit →
      key_at slots 1 t ≡ key_at slots 1 s → Down (t / 4)
  along zero s t r a b l h e = absurd (omega (arith, a, b))
  along (suc fuel) s t r a b l h e =
      let n = next_of slots 1 (key_at slots 1 s) (suc s) (omega (arith, a, l)) in
      let most = next_most slots 1 (key_at slots 1 s) (suc s) n.at t n.found a e in
      let lq : n.at < count_of slots = omega (arith, most, l) in
      let down : Down (n.at / 4) =
      subst Down (slot_line n.at lq)
      (taken r (onward s n.at (omega arith) (omega arith) h n.found lq refl)) in
      let same : key_at slots 1 n.at ≡ key_at slots 1 s = n.found.here lq in
      let low = n.found.low in
      ⊎_elim
      (λ z. subst (λ (x : ℕ). Down (x / 4)) z down)
      (λ z. along fuel n.at t down z (omega (arith, low, b)) l (subst (λ (x : ℕ). x < history_limit) (sym same) h) (e ∙ sym same))
      (eq-or-lt_of_le most)

  abbrev Pair-down : ℕ → Type 0
  Pair-down p = Down (line_in N pairs p)

  -- the pair of a line that has fallen takes the next of its ring with it
  ring_down : (p q : ℕ) → p < count_of pairs → Pair-down p → Ring pairs p q → Pair-down q
  ring_down p q l r R = taken r (around p q l (let z = laid_placed.pairs p l in omega (arith, z)) R refl)

  -- on to a later pair of its transaction
  forward : (fuel p q : ℕ) → Pair-down p → p < q → q ≤ p + fuel → q < count_of pairs → key_at pairs 1 q ≡ key_at pairs 1 p → Pair-down q
  forward zero p q r a b l e = absurd (omega (arith, a, b))
  forward (suc fuel) p q r a b l e =
      let n = next_of pairs 1 (key_at pairs 1 p) (suc p) (omega (arith, a, l)) in
      let most = next_most pairs 1 (key_at pairs 1 p) (suc p) n.at q n.found a e in
      let ln : n.at < count_of pairs = omega (arith, most, l) in
      let down = ring_down p n.at (omega (arith, a, l)) r (ring_next pairs p n.at n.found ln) in
      let same : key_at pairs 1 n.at ≡ key_at pairs 1 p = n.found.here ln in
      let low = n.found.low in
      ⊎_elim
      (λ z. subst Pair-down z down)
      (λ z. forward fuel n.at q down z (omega (arith, low, b)) l (e ∙ sym same))
      (eq-or-lt_of_le most)

  -- or behind the last one from the first again
  round : (fuel p q : ℕ) → Pair-down p → p < count_of pairs → count_of pairs ≤ p + fuel → q ≤ p → key_at pairs 1 q ≡ key_at pairs 1 p →
      Pair-down q
  round zero p q r l b a e = absurd (omega (arith, l, b))
  round (suc fuel) p q r l b a e =
      let n = next_of pairs 1 (key_at pairs 1 p) (suc p) l in
      let low = n.found.low in
      ⊎_elim
      (λ z. let same : key_at pairs 1 n.at ≡ key_at pairs 1 p = n.found.here z in
      round fuel n.at q (ring_down p n.at l r (ring_next pairs p n.at n.found z)) z (omega (arith, low, b)) (omega
      (arith, low, a))
      (e ∙ sym same))
      (λ z. let f = next_of pairs 1 (key_at pairs 1 p) 0 (omega arith) in
      let R = ring_again pairs p n.at f.at l n.found z f.found in
      let down = ring_down p f.at l r R in
      let same : key_at pairs 1 f.at ≡ key_at pairs 1 p = ring_same pairs p f.at R in
      let most = next_most pairs 1 (key_at pairs 1 p) 0 f.at q f.found (omega arith) e in
      ⊎_elim
      (λ y. subst Pair-down y down)
      (λ y. forward (count_of pairs) f.at q down y (omega (arith, a, l)) (omega (arith, a, l)) (e ∙ sym same))
      (eq-or-lt_of_le most))
      (less_or n.at (count_of pairs))

  ring_all : (p q : ℕ) → Pair-down p → p < count_of pairs → q < count_of pairs → key_at pairs 1 q ≡ key_at pairs 1 p → Pair-down q
  ring_all p q r lp lq e = ⊎_elim
      (λ z. forward (count_of pairs) p q r z (omega (arith, lq)) lq e)
      (λ z. round (count_of pairs) p q r lp (omega arith) z e)
      (less_or p q)

  down_later : (k m : ℕ) → Down (k - suc N) → N < k → T (by_history N log k m) → Down (m - suc N)
  unfolding by_history line_at
  down_later k m r nk t =
      let both = and_left (ltb k m && is_line N log m) (shares (line_at N log k) (line_at N log m)) t in
      let lt = ltb→lt k m (and_left (ltb k m) (is_line N log m) both) in
      let lm = line_at_lem N log m (and_right (ltb k m) (is_line N log m) both) in
      let i = k - suc N in
      let j = m - suc N in
      let S = shares_at (get_or log i no_did) (get_or log j no_did) (and_right (ltb k m && is_line N log m) (shares (line_at N log k)
      (line_at N log m)) t) in
      let a = touch_history (get_or log i no_did) S.0 S.2 in
      let b = touch_history (get_or log j no_did) S.0 S.1 in
      let li : i < length log = omega (arith, lt, lm.1, nk) in
      let lj : j < length log = omega (arith, lm.0, lm.1) in
      let la : a.update < update_limit = (let x = L.changes i li in let y = a.within in omega (arith, x, y)) in
      let lb : b.update < update_limit = (let x = L.changes j lj in let y = b.within in omega (arith, x, y)) in
      let s = 4 * i + a.update in
      let u = 4 * j + b.update in
      let ls : s < count_of slots = omega (arith, li, la, slots_are) in
      let lu : u < count_of slots = omega (arith, lj, lb, slots_are) in
      let ks : key_at slots 1 s ≡ S.0 = at_slot i a.update la ls ∙ a.is in
      let ku : key_at slots 1 u ≡ S.0 = at_slot j b.update lb lu ∙ b.is in
      let h : S.0 < history_limit = subst (λ (x : ℕ). x < history_limit) a.is (L.histories i a.update li a.within) in
      subst Down (let e : u / 4 ≡ j = omega (arith, lb) in e)
      (along (count_of slots) s u (subst Down (let e : i ≡ s / 4 = omega (arith, la) in e) r) (omega (arith, la, lt, nk)) (omega
      (arith, lu)) lu
      (subst (λ (x : ℕ). x < history_limit) (sym ks) h) (ku ∙ sym ks))
    where
      at_slot : (i u : ℕ) → u < update_limit → 4 * i + u < count_of slots → key_at slots 1 (4 * i + u) ≡ history_at (get_or log i no_did) u
      at_slot i u l w =
          slot_history (4 * i + u) w
          ∙ ap (λ (x : ℕ). history_at (get_or log x no_did) ((4 * i + u) % 4)) (let e : (4 * i + u) / 4 ≡ i = omega (arith, l) in e)
          ∙ ap (λ (x : ℕ). history_at (get_or log i no_did) x) (let e : (4 * i + u) % 4 ≡ u = omega (arith, l) in e)

  down_together : (k m : ℕ) → Down (k - suc N) → T (by_transaction (pairs_of pairs) k m) → Down (m - suc N)
  down_together k m r t =
      let S = together_at (pairs_of pairs) k m t in
      let a = pair_place pairs S.its S.its_there in
      let b = pair_place pairs S.other S.other-there in
      let ea : key_at pairs 0 a.place ≡ k = a.line ∙ S.its_line in
      let eb : key_at pairs 0 b.place ≡ m = b.line ∙ S.other-line in
      subst Down (let e : line_in N pairs b.place ≡ m - suc N = omega (arith, eb) in e)
      (ring_all a.place b.place (subst Down (let e : k - suc N ≡ line_in N pairs a.place = omega (arith, ea) in e) r)
      a.within b.within
      (b.transaction ∙ S.same ∙ sym a.transaction))

  all_named : Named N log (pairs_of pairs) lost
  all_named =
      record {
        pairs = λ x m.
            let q = pair_place pairs x m in
            let w = known_at (key_at pairs 0 q.place) (L.pairs_known q.place q.within) in
            let e = q.line in
            line_of N log x.line (omega (arith, w.0, e)) (omega (arith, w.1, e));
        lines = λ k m.
            let q = mem-place k lost m in
            let w = known_at (get_or lost q.place 0) (L.lost_known q.place q.within) in
            let e = q.is in
            line_of N log k (omega (arith, w.0, e)) (omega (arith, w.1, e));
      }

  above : (k : ℕ) → Out k → N < k
  above k r = (line_at_lem N log k (removed_line N log (pairs_of pairs) lost all_named k r)).0

  pub out_fallen : (k : ℕ) → N < k → Out k → Down (k - suc N)
  out_fallen k l (rule.itself m) =
      let q = mem-place k lost m in
      subst Down (let e : get_or lost q.place 0 - N - 1 ≡ k - suc N = (let z = q.is in omega (arith, z)) in e) (itself q.place
      q.within)
  out_fallen k l (rule.later {k = i} r t) = let li = above i r in down_later i k (out_fallen i li r) li t
  out_fallen k l (rule.together {k = i} r t) = down_together i k (out_fallen i (above i r) r) t

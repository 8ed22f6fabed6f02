-- Laws of numbers that change their places: one that moves, the first k of n, and the numbers below n.
use Rattle.std.specs.Prelude.{ℕ, zero, suc, ◌+◌, ◌-◌, ◌≤◌, ◌<◌, ◌≡◌, refl, List, [], ◌∷◌, ◌++◌, length, get_or, take, drop, set}
use Rattle.std.specs.List.{copy_within}
use Rattle.std.proofs.Common.{add-one, arith, sym, ap, ap₂, ◌∙◌, take-append-drop, take-suc-set, take_all, take-take, take_at, drop_at, drop-drop}
use Rattle.std.proofs.Common.{length-append, length-drop, length-take-le}
use Rattle.std.proofs.Math.Seq.{take-add}
use Rattle.std.proofs.lemmas.List.{set_split, append_assoc, drop-take, take-append-le}
use borrow.Rule.Slice.PartMut.{put_mid}
use Rattle.forms.specs.Lists.{below}
use Rattle.table.specs.Lists.{omit}
use Rattle.table.specs.Order.{moved, turned}

-- ### One number moves

-- what stands before the place left out, and behind it
take-omit : (k : ℕ) (l : List ℕ) → take k (omit k l) ≡ take k l
unfolding omit
take-omit zero l = refl
take-omit (suc k) [] = refl
take-omit (suc k) (x ∷ l) = ap (λ (r : List ℕ). x ∷ r) (take-omit k l)

drop-omit : (k : ℕ) (l : List ℕ) → drop k (omit k l) ≡ drop (suc k) l
unfolding omit
drop-omit zero [] = refl
drop-omit zero (x ∷ l) = refl
drop-omit (suc k) [] = refl
drop-omit (suc k) (x ∷ l) = drop-omit k l

-- The numbers between have moved by one: the number itself is put into its place.
pub moved-end : (i j x : ℕ) (l r : List ℕ) → j < length r → omit j r ≡ omit i l → x ≡ get_or l i 0 → set r j x ≡ moved i j l
unfolding moved
moved-end i j x l r h e q =
    set_split r j x h
    ∙ ap₂ (λ (a b : List ℕ). a ++ (x ∷ b)) (sym (take-omit j r)) (sym (drop-omit j r))
    ∙ ap₂ (λ (w : List ℕ) (y : ℕ). take j w ++ (y ∷ drop j w)) e q

-- the list without its element at k, from its two parts
omit-is : (k : ℕ) (l : List ℕ) → omit k l ≡ take k l ++ drop (suc k) l
omit-is k l = sym (take-append-drop k (omit k l)) ∙ ap₂ (λ (a b : List ℕ). a ++ b) (take-omit k l) (drop-omit k l)

-- The numbers from i to j, k of them, are turned by one to the front: the number at i has come to j.
pub moved_back : (i j k : ℕ) (l : List ℕ) → i ≤ j → j < length l → k ≡ j + 1 - i
    → take i l ++ ((drop 1 (take k (drop i l)) ++ take 1 (take k (drop i l))) ++ drop k (drop i l)) ≡ moved i j l
unfolding moved omit
moved_back i j k [] h g e = absurd (omega arith)
moved_back zero j k (x ∷ l) h g e = let z : k ≡ suc j = omega arith in rw z (append_assoc (take j l) (x ∷ []) (drop j l))
moved_back (suc i) zero k (x ∷ l) h g e = absurd (omega arith)
moved_back (suc i) (suc j) k (x ∷ l) h g e = ap (λ (r : List ℕ). x ∷ r) (moved_back i j k l (omega arith) (omega arith) (omega arith))

last-part : (i : ℕ) (l : List ℕ) → i < length l → drop i (take (suc i) l) ≡ get_or l i 0 ∷ []
last-part i [] h = absurd (omega arith)
last-part zero (x ∷ l) h = refl
last-part (suc i) (x ∷ l) h = last-part i l (omega arith)

-- The numbers from j to i, k of them, are turned by one to the back, the first n of them behind the last: the number at i has come to j.
pub moved_forward : (i j k n : ℕ) (l : List ℕ) → j ≤ i → i < length l → k ≡ i + 1 - j → n ≡ i - j
    → take j l ++ ((drop n (take k (drop j l)) ++ take n (take k (drop j l))) ++ drop k (drop j l)) ≡ moved i j l
unfolding moved omit
moved_forward i j k n [] h g e f = absurd (omega arith)
moved_forward i zero k n (x ∷ l) h g e f =
    let z : k ≡ suc i = omega arith in
    let y : n ≡ i = omega arith in
    rw (z, y)
    (ap₂ (λ (a b : List ℕ). (a ++ b) ++ drop i l) (last-part i (x ∷ l) g) (take-take i (suc i) (x ∷ l) (omega arith))
    ∙ ap (λ (r : List ℕ). get_or (x ∷ l) i 0 ∷ r) (sym (omit-is i (x ∷ l))))
moved_forward zero (suc j) k n (x ∷ l) h g e f = absurd (omega arith)
moved_forward (suc i) (suc j) k n (x ∷ l) h g e f =
    ap (λ (r : List ℕ). x ∷ r) (moved_forward i j k n l (omega arith) (omega arith) (omega arith) (omega arith))

-- Of the first n numbers, the first k go behind the others.
pub turned-is : (k n : ℕ) (l : List ℕ) → k ≤ n → (drop k (take n l) ++ take k (take n l)) ++ drop n l ≡ turned k n l
unfolding turned
turned-is k n l h =
    append_assoc (drop k (take n l)) (take k (take n l)) (drop n l)
    ∙ ap (λ (r : List ℕ). drop k (take n l) ++ (r ++ drop n l)) (take-take k n l h)

-- Of the first n numbers, those from k on have come to the front of the list w, and the first k are put behind them.
pub turned_copied : (k n : ℕ) (l w s : List ℕ) → k ≤ n → n ≤ length l → w ≡ copy_within l k n 0 → s ≡ take k l
    → put_mid (n - k) (n - (n - k)) w s ≡ turned k n l
unfolding turned
turned_copied k n l w s h g e f =
    ap₂ (λ (x y : List ℕ). x ++ y) front (ap₂ (λ (x y : List ℕ). x ++ y) f behind)
  where
    long : length (take (n - k) (drop k l)) ≡ n - k
    long = length-take-le (n - k) (drop k l) (omega (arith, h, g, length-drop k l))

    front : take (n - k) w ≡ drop k (take n l)
    front =
        ap (take (n - k)) e
        ∙ take_at (take (n - k) (drop k l)) (drop (0 + (n - k)) l) (n - k) long
        ∙ sym (drop-take k (n - k) l)
        ∙ ap (λ (j : ℕ). drop k (take j l)) (let z : k + (n - k) ≡ n = omega arith in z)

    behind : drop (n - (n - k)) (drop (n - k) w) ≡ drop n l
    behind =
        ap (λ (x : List ℕ). drop (n - (n - k)) (drop (n - k) x)) e
        ∙ ap (drop (n - (n - k))) (drop_at (take (n - k) (drop k l)) (drop (0 + (n - k)) l) (n - k) long)
        ∙ drop-drop (n - (n - k)) (0 + (n - k)) l
        ∙ ap (λ (j : ℕ). drop j l) (let z : 0 + (n - k) + (n - (n - k)) ≡ n = omega arith in z)

-- The numbers from j to i have moved on by one, those before i: the number at i is put into its place.
pub forward_copied : (i j : ℕ) (l r : List ℕ) → j ≤ i → i < length l → length r ≡ length l → r ≡ copy_within l j i (j + 1)
    → set r j (get_or l i 0) ≡ moved i j l
forward_copied i j l r h g m e = moved-end i j (get_or l i 0) l r (omega (arith, m)) same refl
  where
    part : List ℕ
    part = take (i - j) (drop j l)

    rest : List ℕ
    rest = drop (j + 1 + (i - j)) l

    long : length (take (j + 1) l) ≡ j + 1
    long = length-take-le (j + 1) l (omega arith)

    is : r ≡ take (j + 1) l ++ (part ++ rest)
    is = e ∙ append_assoc (take (j + 1) l) part rest

    front : take j r ≡ take j l
    front =
        ap (take j) is
        ∙ take-append-le j (take (j + 1) l) (part ++ rest) (omega (arith, long))
        ∙ take-take j (j + 1) l (omega arith)

    behind : drop (suc j) r ≡ part ++ rest
    behind = ap (drop (suc j)) is ∙ drop_at (take (j + 1) l) (part ++ rest) (suc j) (let z : j + 1 ≡ suc j = omega arith in long ∙ z)

    up : take j l ++ part ≡ take i l
    up = sym (take-add j (i - j) l) ∙ ap (λ (n : ℕ). take n l) (let z : j + (i - j) ≡ i = omega arith in z)

    past : rest ≡ drop (suc i) l
    past = ap (λ (n : ℕ). drop n l) (let z : j + 1 + (i - j) ≡ suc i = omega arith in z)

    same : omit j r ≡ omit i l
    same =
        omit-is j r
        ∙ ap₂ (λ (a b : List ℕ). a ++ b) front behind
        ∙ sym (append_assoc (take j l) part rest)
        ∙ ap₂ (λ (a b : List ℕ). a ++ b) up past
        ∙ sym (omit-is i l)

-- The numbers behind i up to j have moved up by one: the number at i is put into its place.
pub back_copied : (i j : ℕ) (l r : List ℕ) → i ≤ j → j < length l → length r ≡ length l → r ≡ copy_within l (i + 1) (j + 1) i
    → set r j (get_or l i 0) ≡ moved i j l
back_copied i j l r h g m e = moved-end i j (get_or l i 0) l r (omega (arith, m)) same refl
  where
    up : ℕ
    up = j + 1 - (i + 1)

    part : List ℕ
    part = take up (drop (i + 1) l)

    long : length (take i l ++ part) ≡ j
    long =
        omega (
          arith,
          length-append (take i l) part,
          length-take-le i l (omega arith),
          length-take-le up (drop (i + 1) l) (omega (arith, length-drop (i + 1) l)),
        )

    front : take j r ≡ take i l ++ part
    front = ap (take j) e ∙ take_at (take i l ++ part) (drop (i + up) l) j long

    behind : drop (suc j) r ≡ drop up (drop (i + 1) l)
    behind =
        ap (λ (n : ℕ). drop n r) (let z : suc j ≡ j + 1 = omega arith in z)
        ∙ sym (drop-drop 1 j r)
        ∙ ap (λ (x : List ℕ). drop 1 (drop j x)) e
        ∙ ap (drop 1) (drop_at (take i l ++ part) (drop (i + up) l) j long)
        ∙ drop-drop 1 (i + up) l
        ∙ ap (λ (n : ℕ). drop n l) (let z : i + up + 1 ≡ i + 1 + up = omega arith in z)
        ∙ sym (drop-drop up (i + 1) l)

    same : omit j r ≡ omit i l
    same =
        omit-is j r
        ∙ ap₂ (λ (a b : List ℕ). a ++ b) front behind
        ∙ append_assoc (take i l) part (drop up (drop (i + 1) l))
        ∙ ap (λ (x : List ℕ). take i l ++ x) (take-append-drop up (drop (i + 1) l))
        ∙ ap (λ (n : ℕ). take i l ++ drop n l) (let z : i + 1 ≡ suc i = omega arith in z)
        ∙ sym (omit-is i l)

-- ### Numbers written one behind the other

-- the numbers below i: one more, and all
pub below_next : (r : List ℕ) (i : ℕ) → i < length r → take i r ≡ below i → take (i + 1) (set r i i) ≡ below (i + 1)
unfolding below
below_next r i h e =
    ap (λ (k : ℕ). take k (set r i i)) (add-one i)
    ∙ take-suc-set r i i h
    ∙ ap (λ (l : List ℕ). l ++ (i ∷ [])) e
    ∙ ap below (sym (add-one i))

pub below_end : (r : List ℕ) (i n : ℕ) → length r ≡ n → n ≤ i → i ≤ n → take i r ≡ below i → r ≡ below n
below_end r i n long h g e = sym (take_all i r (omega (arith, long))) ∙ e ∙ ap below (let z : i ≡ n = omega arith in z)

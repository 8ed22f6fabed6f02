-- Laws of the lists of a reply: what the functions that fill the array leave there, and what is as it was.
use Rattle.std.specs.Prelude.{ℕ, ◌+◌, ◌-◌, ◌≤◌, ◌≡◌, List, ◌++◌, length, take, drop}
use Rattle.std.proofs.Common.{arith, sym, ap, subst, ◌∙◌, take_at, drop_at, drop-drop, length-take-le}
use Rattle.std.proofs.Math.ListN.{length-drop}
use Rattle.forms.specs.Held.{listed, numbers_of}
use Rattle.forms.specs.Write.{placed, Wrote}
use Rattle.forms.specs.WriteLaws.{wrote_more}
use Rattle.forms.specs.Limits.{live_limit}
use Rattle.history.specs.Lists.{Lists}
use Rattle.site.specs.ModelLaws.{Means}
use Rattle.site.specs.LineLaws.{Appended, behind_past, behind-length}

-- lists that agree from u on agree from any later place on
pub drop_more : (u v : ℕ) (x y : List ℕ) → u ≤ v → drop u x ≡ drop u y → drop v x ≡ drop v y
drop_more u v x y le e =
    let n : v ≡ u + (v - u) = omega (arith, le) in
    ap (λ (j : ℕ). drop j x) n ∙ sym (drop-drop (v - u) u x) ∙ ap (drop (v - u)) e ∙ drop-drop (v - u) u y
    ∙ ap (λ (j : ℕ). drop j y) (sym n)

-- ### One list

module _ {old : List ℕ} {at : ℕ} {xs : List ℕ} {n : ℕ} {new : List ℕ} (l : Lists old at xs n new) where
  count_is : n ≡ length xs
  count_is = omega (arith, l.wrote.behind)

  behind : Appended old at xs new
  unfolding placed
  behind = record { room = omega (arith, l.room, count_is); bytes = l.wrote.bytes }

  front : length (take at old) ≡ at
  front = length-take-le at old (omega (arith, l.room))

  pub list_length : length new ≡ length old
  list_length = behind-length old at xs new behind

  list_here : take n (drop at new) ≡ xs
  list_here =
      ap (λ (ws : List ℕ). take n (drop at ws)) behind.bytes
      ∙ ap (take n) (drop_at (take at old) (xs ++ drop (at + length xs) old) at front)
      ∙ take_at xs (drop (at + length xs) old) n (sym count_is)

  list_before : take at new ≡ take at old
  list_before = ap (take at) behind.bytes ∙ take_at (take at old) (xs ++ drop (at + length xs) old) at front

  list_past : drop (at + n) new ≡ drop (at + n) old
  list_past = subst (λ (k : ℕ). drop (at + k) new ≡ drop (at + k) old) (sym count_is) (behind_past old at xs new behind)

  pub means_list : Means (listed n (drop at new)) xs
  unfolding numbers_of
  means_list = record { fits = record { few = l.few; within = omega (arith, l.room, list_length, length-drop at new) }; list = list_here }

-- a reply with one list
module _ {old xs : List ℕ} {n : ℕ} {new : List ℕ} (l : Lists old 0 xs n new) where
  pub means_one : Means (listed n new) xs
  means_one = means_list l

  pub past_one : drop (n + 0) new ≡ drop (n + 0) old
  past_one = let e : 0 + n ≡ n + 0 = omega arith in subst (λ (k : ℕ). drop k new ≡ drop k old) e (list_past l)

-- ### Two lists, the second behind the first

-- .. as one
pub lists_joined : {old : List ℕ} {at : ℕ} {xs : List ℕ} {n : ℕ} {mid ys : List ℕ} {m : ℕ} {new : List ℕ} → Lists old at xs n mid →
    Lists mid (at + n) ys m new → n + m ≤ live_limit → Lists old at (xs ++ ys) (n + m) new
lists_joined {old} {at} {xs} {n} {mid} {ys} {m} {new} f g few =
    let e : at + n + m ≡ at + (n + m) = omega arith in
    record {
      few = few;
      room = omega (arith, g.room, list_length f);
      wrote =
          subst (λ (k : ℕ). Wrote old at (xs ++ ys) k new) e
          (wrote_more old at xs ys (at + n) (at + n + m) mid new
          (omega (arith, g.room, f.wrote.behind, g.wrote.behind, list_length f)) f.wrote g.wrote);
    }

module _ {old xs : List ℕ} {n : ℕ} {mid ys : List ℕ} {m : ℕ} {new : List ℕ} (f : Lists old 0 xs n mid) (g : Lists mid n ys m new) where
  pub means_first : Means (listed n new) xs
  unfolding numbers_of
  means_first =
      record { fits = record { few = f.few; within = omega (arith, g.room, list_length g) }; list = list_before g ∙ (means_list f).list }

  pub past_two : drop (n + m) new ≡ drop (n + m) old
  past_two = list_past g ∙ drop_more (0 + n) (n + m) mid old (omega arith) (list_past f)

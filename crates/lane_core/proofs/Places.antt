-- Each place has a word of its own.
use Rattle.std.proofs.Common.{◌≡◌, ℕ, ◌+◌, ◌*◌, ◌<◌, ◌≤◌, ◌≢◌, inl, inr, suc, List, length, get_or, refl, sym, ap, ap₂, ◌∙◌, subst, arith, slice_set, get_or-set_same, get_or-set_other, mul-le-mul_right, suc-mul}
use Rattle.lane_core.specs.Machine.{State}
use Rattle.lane_core.specs.Areas.{put}
use Rattle.lane_core.proofs.Put.{put_at, put_elim, same_or_not}
use Rattle.lane_core.specs.declared.shape.Shape.{Shape}
use Rattle.lane_core.specs.Places.{IsShape, Place, SeenData, KeptData, SeenMap, KeptMap, SeenA, KeptA, SeenB, KeptB, Reader, Lock, IsIn, reader_words, reader_place, word_of, row_size, value_of, Shows, PlacesAreApart}

-- a row ends before the next begins
row_end : (b c n : ℕ) → b < c → b * n + n ≤ c * n
row_end b c n lt = let a : suc b * n ≤ c * n = mul-le-mul_right n lt in omega (arith, suc-mul b n)

same_row : (n a b j k : ℕ) → j < n → k < n → a * n + j ≡ b * n + k → (a ≡ b) × (j ≡ k)
same_row n a b j k lj lk e = (rows, let r = rows in let q : a * n ≡ b * n = ap (λ x. x * n) r in omega arith)
  where
    not_less : (a b j k : ℕ) → j < n → k < n → a * n + j ≡ b * n + k → a < b → ⊥
    not_less a b j k lj lk e lt = let r = row_end a b n lt in omega arith

    rows : a ≡ b
    rows = let l : a < b → ⊥ = not_less a b j k lj lk e in let m : b < a → ⊥ = not_less b a k j lk lj (sym e) in omega arith

-- a reader word lies in the reader table, and is no other lane's
pub reader_in : (l lanes : ℕ) → l < lanes → reader_place l < reader_words lanes
reader_in l lanes lt = omega arith

same_reader : (a b : ℕ) → reader_place a ≡ reader_place b → a ≡ b
same_reader a b e = omega arith

-- the word of each place
abbrev low : Shape → Place → ℕ
low x (SeenData b k) = x.data_at
low x (KeptData b k) = x.total + x.data_at
low x (SeenMap m) = x.map_at
low x (KeptMap m) = x.total + x.map_at
low x (SeenA l side) = x.log_at
low x (KeptA l side) = x.total + x.log_at
low x (SeenB l side) = x.log_at
low x (KeptB l side) = x.total + x.log_at
low x (Reader l) = 2 * x.total
low x (Lock k) = 2 * x.total + reader_words x.lanes

abbrev high : Shape → Place → ℕ
high x (SeenData b k) = x.map_at
high x (KeptData b k) = x.total + x.map_at
high x (SeenMap m) = x.log_at
high x (KeptMap m) = x.total + x.log_at
high x (SeenA l side) = x.total
high x (KeptA l side) = x.total + x.total
high x (SeenB l side) = x.total
high x (KeptB l side) = x.total + x.total
high x (Reader l) = 2 * x.total + reader_words x.lanes
high x (Lock k) = 2 * x.total + reader_words x.lanes + x.lanes

pub data_in : (x : Shape) → IsShape x → (b k : ℕ) → b < x.sectors + x.lanes → k < x.width → x.data_at + b * x.inner + k < x.map_at
data_in x h b k lb lk = let w = h.wide in let bl = h.blocks in let r : b * x.inner + x.inner ≤ (x.sectors + x.lanes) * x.inner = row_end b (x.sectors + x.lanes) x.inner lb in omega arith

bounds : (x : Shape) → IsShape x → (p : Place) → IsIn x p → (low x p ≤ word_of x p) × (word_of x p < high x p)
bounds x h (SeenData b k) i = (omega arith, data_in x h b k i.0 i.1)
bounds x h (KeptData b k) i = (omega arith, omega (arith, data_in x h b k i.0 i.1))
bounds x h (SeenMap m) i = (omega arith, omega (arith, h.map))
bounds x h (KeptMap m) i = (omega arith, omega (arith, h.map))
bounds x h (SeenA l side) i = (omega arith, omega (arith, h.log, i.0, i.1))
bounds x h (KeptA l side) i = (omega arith, omega (arith, h.log, i.0, i.1))
bounds x h (SeenB l side) i = (omega arith, omega (arith, h.log, i.0, i.1))
bounds x h (KeptB l side) i = (omega arith, omega (arith, h.log, i.0, i.1))
bounds x h (Reader l) i = (omega arith, omega (arith, reader_in l x.lanes i))
bounds x h (Lock k) i = (omega arith, omega arith)

pub in_order : (x : Shape) → IsShape x → (x.data_at ≤ x.map_at) × (x.map_at ≤ x.log_at) × (x.log_at ≤ x.total)
in_order x h = let a = h.blocks in let b = h.map in let c = h.log in (omega arith, omega arith, omega arith)

-- all places lie behind the info block
pub after_info : (x : Shape) → IsShape x → (p : Place) → IsIn x p → x.data_at ≤ word_of x p
after_info x h p i = let b = bounds x h p i in from_low p (in_order x h) b.0
  where
    from_low : (p : Place) → (x.data_at ≤ x.map_at) × (x.map_at ≤ x.log_at) × (x.log_at ≤ x.total) → low x p ≤ word_of x p → x.data_at ≤ word_of x p
    from_low (SeenData b k) c le = le
    from_low (SeenMap m) c le = omega arith
    from_low (SeenA l side) c le = omega arith
    from_low (SeenB l side) c le = omega arith
    from_low (Reader l) c le = omega arith
    from_low (Lock k) c le = omega arith
    from_low _ c le = omega arith

pub same_place : (x : Shape) → IsShape x → (p q : Place) → IsIn x p → IsIn x q → word_of x p ≡ word_of x q → p ≡ q
same_place x h (SeenData b k) (SeenData c j) i m e = let w = h.wide in let s = same_row x.inner b c k j (omega (arith, i.1)) (omega (arith, m.1)) (omega arith) in ap₂ SeenData s.0 s.1
same_place x h (KeptData b k) (KeptData c j) i m e = let w = h.wide in let s = same_row x.inner b c k j (omega (arith, i.1)) (omega (arith, m.1)) (omega arith) in ap₂ KeptData s.0 s.1
same_place x h (SeenMap a) (SeenMap b) i m e = ap SeenMap (omega arith)
same_place x h (KeptMap a) (KeptMap b) i m e = ap KeptMap (omega arith)
same_place x h (SeenA l s) (SeenA n t) i m e = ap₂ SeenA (omega (arith, i.1, m.1)) (omega (arith, i.1, m.1))
same_place x h (KeptA l s) (KeptA n t) i m e = ap₂ KeptA (omega (arith, i.1, m.1)) (omega (arith, i.1, m.1))
same_place x h (SeenB l s) (SeenB n t) i m e = ap₂ SeenB (omega (arith, i.1, m.1)) (omega (arith, i.1, m.1))
same_place x h (KeptB l s) (KeptB n t) i m e = ap₂ KeptB (omega (arith, i.1, m.1)) (omega (arith, i.1, m.1))
same_place x h (Reader a) (Reader b) i m e = ap Reader (same_reader a b (omega arith))
same_place x h (Lock a) (Lock b) i m e = ap Lock (omega arith)
same_place x h p q i m e = absurd (let a = bounds x h p i in let b = bounds x h q m in let c = in_order x h in omega arith)

-- One word changes, and one place of the state
pub shows_stored : (x : Shape) → IsShape x → (words : List ℕ) (s t : State) (p : Place) (v : ℕ) → IsIn x p → word_of x p < length words → Shows x words s
    → value_of t p ≡ v → ((q : Place) → q ≢ p → IsIn x q → value_of t q ≡ value_of s q) → Shows x (slice_set words (word_of x p) v) t
shows_stored x h words s t p v i fits shows here there q m =
    elim (same_or_not (word_of x q) (word_of x p)) [
      | inl e ↦ subst (λ q. get_or (slice_set words (word_of x p) v) (word_of x q) 0 ≡ value_of t q) (sym (same_place x h q p m i e))
          (get_or-set_same words (word_of x p) v 0 fits ∙ sym here)
      | inr ne ↦ get_or-set_other words (word_of x p) (word_of x q) v 0 ne ∙ shows q m ∙ sym (there q (λ e. ne (ap (word_of x) e)) m)
    ]

pub in_table : (x : Shape) → IsShape x → (p : Place) → IsIn x p → word_of x p < row_size x
in_table x h p i = let b = bounds x h p i in le_high p (in_order x h) b.1
  where
    le_high : (p : Place) → (x.data_at ≤ x.map_at) × (x.map_at ≤ x.log_at) × (x.log_at ≤ x.total) → word_of x p < high x p → word_of x p < row_size x
    le_high (SeenData b k) c lt = omega arith
    le_high (KeptData b k) c lt = omega arith
    le_high (SeenMap m) c lt = omega arith
    le_high (KeptMap m) c lt = omega arith
    le_high (Reader l) c lt = omega arith
    le_high (Lock k) c lt = omega arith
    le_high _ c lt = omega arith

-- a lane that changes into itself
pub put_again : {A : Type 0} (f : ℕ → A) (l : ℕ) (v : A) → v ≡ f l → put f l v ≡ f
put_again f l v e = λ i k. put_elim (λ k w. w ≡ f k) f l v e (λ k ne. refl) k i

pub put_mine : {A : Type 0} (f : ℕ → A) (l : ℕ) (v : A) → put f l (put f l v l) ≡ put f l v
put_mine f l v = ap (put f l) (put_at f l v)

-- the words of seen places stand in the first part of the row
pub seen_data_low : (x : Shape) → IsShape x → (b k : ℕ) → IsIn x (SeenData b k) → word_of x (SeenData b k) < x.total
seen_data_low x h b k i = let c = in_order x h in let r = bounds x h (SeenData b k) i in omega (arith, c, r.1)

pub seen_map_low : (x : Shape) → IsShape x → (m : ℕ) → IsIn x (SeenMap m) → word_of x (SeenMap m) < x.total
seen_map_low x h m i = let c = in_order x h in let r = bounds x h (SeenMap m) i in omega (arith, c, r.1)

pub seen_a_low : (x : Shape) → IsShape x → (l side : ℕ) → IsIn x (SeenA l side) → word_of x (SeenA l side) < x.total
seen_a_low x h l side i = let c = in_order x h in let r = bounds x h (SeenA l side) i in omega (arith, c, r.1)

pub seen_b_low : (x : Shape) → IsShape x → (l side : ℕ) → IsIn x (SeenB l side) → word_of x (SeenB l side) < x.total
seen_b_low x h l side i = let c = in_order x h in let r = bounds x h (SeenB l side) i in omega (arith, c, r.1)

-- a whole sector's words stand before the end of the row
pub data_ends : (x : Shape) → IsShape x → 0 < x.lanes → (b : ℕ) → b < x.sectors + x.lanes → word_of x (SeenData b 0) + x.width < row_size x
data_ends x h some b lb = let w = h.wide in let c = in_order x h in let bl = h.blocks in let r : b * x.inner + x.inner ≤ (x.sectors + x.lanes) * x.inner = row_end b (x.sectors + x.lanes) x.inner lb in omega (arith, w, c, bl, r, some)

pub places_are_apart : PlacesAreApart
places_are_apart x h = record { apart = same_place x h; inside = in_table x h }

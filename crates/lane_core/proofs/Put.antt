-- A function that changes at one place.
use Rattle.std.proofs.Common.{◌≡◌, ℕ, ◌≢◌, ◌⊎◌, inl, inr, true, false, refl, sym, ap, subst, arith}
use Rattle.lane_core.specs.Areas.{put}

pub never : {A : Type 0} → false ≡ true → A
never h = cc

pub same_or_not : (i l : ℕ) → (i ≡ l) ⊎ (i ≢ l)
same_or_not i l = grind arith

pub put_at : {A : Type 0} (f : ℕ → A) (i : ℕ) (v : A) → put f i v i ≡ v
unfolding put
put_at f i v = grind arith

pub put_other : {A : Type 0} (f : ℕ → A) (i : ℕ) (v : A) (k : ℕ) → k ≢ i → put f i v k ≡ f k
unfolding put
put_other f i v k ne = grind arith

pub put_elim : {A : Type 0} (P : ℕ → A → Type 0) (f : ℕ → A) (l : ℕ) (v : A) → P l v → ((i : ℕ) → i ≢ l → P i (f i)) → (i : ℕ) → P i (put f l v i)
put_elim P f l v here there i =
    elim (same_or_not i l) [
      | inl e ↦ subst (λ k. P k (put f l v k)) (sym e) (subst (λ x. P l x) (sym (put_at f l v)) here)
      | inr ne ↦ subst (λ x. P i x) (sym (put_other f l v i ne)) (there i ne)
    ]

-- what a function of the values doesn't see
pub put_same : {A B : Type 0} (h : A → B) (f : ℕ → A) (l : ℕ) (v : A) → h v ≡ h (f l) → (i : ℕ) → h (put f l v i) ≡ h (f i)
put_same h f l v e = put_elim (λ i x. h x ≡ h (f i)) f l v e (λ i ne. refl)

-- a second index
pub put2_at : (f : ℕ → ℕ → ℕ) (b k v : ℕ) → put f b (put (f b) k v) b k ≡ v
put2_at f b k v = subst (λ g. g k ≡ v) (sym (put_at f b (put (f b) k v))) (put_at (f b) k v)

pub put2_other : (f : ℕ → ℕ → ℕ) (b k v c j : ℕ) → c ≢ b → put f b (put (f b) k v) c j ≡ f c j
put2_other f b k v c j ne = ap (λ g. g j) (put_other f b (put (f b) k v) c ne)

pub put2_row : (f : ℕ → ℕ → ℕ) (b k v j : ℕ) → j ≢ k → put f b (put (f b) k v) b j ≡ f b j
put2_row f b k v j ne = subst (λ g. g j ≡ f b j) (sym (put_at f b (put (f b) k v))) (put_other (f b) k v j ne)

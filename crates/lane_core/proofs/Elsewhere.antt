-- A store at one place changes no other place.
use Rattle.std.proofs.Common.{◌≡◌, ℕ, ◌≢◌, inl, inr, List, refl, sym, ap, ap₂, subst}
use Rattle.lane_core.specs.Areas.{put, store_data, store_map, store_a, store_b}
use Rattle.lane_core.specs.declared.lane.Lane.{Lane}
use Rattle.lane_core.specs.declared.history.Entry.{Entry}
use Rattle.lane_core.specs.Machine.{State}
use Rattle.lane_core.proofs.Put.{put_other, put2_other, put2_row, same_or_not}
use Rattle.lane_core.specs.declared.shape.Shape.{Shape}
use Rattle.lane_core.specs.Places.{Place, SeenData, KeptData, SeenMap, KeptMap, SeenA, KeptA, SeenB, KeptB, Reader, Lock, value_of}

module _ (x : Shape) (s : State) (lanes : ℕ → Lane) (history : List Entry) where
  pub nowhere : (p : Place) → value_of (record s { lanes = lanes; history = history }) p ≡ value_of s p
  nowhere (SeenData b k) = refl
  nowhere _ = refl

  pub but_seen_data : (b k v : ℕ) (p : Place) → p ≢ SeenData b k → value_of (record s { seen = store_data s.seen b k v; lanes = lanes; history = history }) p ≡ value_of s p
  but_seen_data b k v (SeenData c j) ne =
      elim (same_or_not c b) [
        | inl q ↦ elim (same_or_not j k) [
          | inl r ↦ absurd (ne (ap₂ SeenData q r))
          | inr nr ↦ subst (λ c. put s.seen.data_at b (put (s.seen.data_at b) k v) c j ≡ s.seen.data_at c j) (sym q) (put2_row s.seen.data_at b k v j nr)
        ]
        | inr nq ↦ put2_other s.seen.data_at b k v c j nq
      ]
  but_seen_data b k v _ ne = refl

  pub but_seen_a : (b k v : ℕ) (p : Place) → p ≢ SeenA b k → value_of (record s { seen = store_a s.seen b k v; lanes = lanes; history = history }) p ≡ value_of s p
  but_seen_a b k v (SeenA c j) ne =
      elim (same_or_not c b) [
        | inl q ↦ elim (same_or_not j k) [
          | inl r ↦ absurd (ne (ap₂ SeenA q r))
          | inr nr ↦ subst (λ c. put s.seen.log_a b (put (s.seen.log_a b) k v) c j ≡ s.seen.log_a c j) (sym q) (put2_row s.seen.log_a b k v j nr)
        ]
        | inr nq ↦ put2_other s.seen.log_a b k v c j nq
      ]
  but_seen_a b k v _ ne = refl

  pub but_seen_b : (b k v : ℕ) (p : Place) → p ≢ SeenB b k → value_of (record s { seen = store_b s.seen b k v; lanes = lanes; history = history }) p ≡ value_of s p
  but_seen_b b k v (SeenB c j) ne =
      elim (same_or_not c b) [
        | inl q ↦ elim (same_or_not j k) [
          | inl r ↦ absurd (ne (ap₂ SeenB q r))
          | inr nr ↦ subst (λ c. put s.seen.log_b b (put (s.seen.log_b b) k v) c j ≡ s.seen.log_b c j) (sym q) (put2_row s.seen.log_b b k v j nr)
        ]
        | inr nq ↦ put2_other s.seen.log_b b k v c j nq
      ]
  but_seen_b b k v _ ne = refl

  pub but_seen_map : (m v : ℕ) (p : Place) → p ≢ SeenMap m → value_of (record s { seen = store_map s.seen m v; lanes = lanes; history = history }) p ≡ value_of s p
  but_seen_map m v (SeenMap j) ne = put_other s.seen.map_at m v j (λ q. ne (ap SeenMap q))
  but_seen_map m v _ ne = refl

  pub but_kept_data : (b k v : ℕ) (p : Place) → p ≢ KeptData b k → value_of (record s { kept = store_data s.kept b k v; lanes = lanes; history = history }) p ≡ value_of s p
  but_kept_data b k v (KeptData c j) ne =
      elim (same_or_not c b) [
        | inl q ↦ elim (same_or_not j k) [
          | inl r ↦ absurd (ne (ap₂ KeptData q r))
          | inr nr ↦ subst (λ c. put s.kept.data_at b (put (s.kept.data_at b) k v) c j ≡ s.kept.data_at c j) (sym q) (put2_row s.kept.data_at b k v j nr)
        ]
        | inr nq ↦ put2_other s.kept.data_at b k v c j nq
      ]
  but_kept_data b k v _ ne = refl

  pub but_kept_a : (b k v : ℕ) (p : Place) → p ≢ KeptA b k → value_of (record s { kept = store_a s.kept b k v; lanes = lanes; history = history }) p ≡ value_of s p
  but_kept_a b k v (KeptA c j) ne =
      elim (same_or_not c b) [
        | inl q ↦ elim (same_or_not j k) [
          | inl r ↦ absurd (ne (ap₂ KeptA q r))
          | inr nr ↦ subst (λ c. put s.kept.log_a b (put (s.kept.log_a b) k v) c j ≡ s.kept.log_a c j) (sym q) (put2_row s.kept.log_a b k v j nr)
        ]
        | inr nq ↦ put2_other s.kept.log_a b k v c j nq
      ]
  but_kept_a b k v _ ne = refl

  pub but_kept_b : (b k v : ℕ) (p : Place) → p ≢ KeptB b k → value_of (record s { kept = store_b s.kept b k v; lanes = lanes; history = history }) p ≡ value_of s p
  but_kept_b b k v (KeptB c j) ne =
      elim (same_or_not c b) [
        | inl q ↦ elim (same_or_not j k) [
          | inl r ↦ absurd (ne (ap₂ KeptB q r))
          | inr nr ↦ subst (λ c. put s.kept.log_b b (put (s.kept.log_b b) k v) c j ≡ s.kept.log_b c j) (sym q) (put2_row s.kept.log_b b k v j nr)
        ]
        | inr nq ↦ put2_other s.kept.log_b b k v c j nq
      ]
  but_kept_b b k v _ ne = refl

  pub but_kept_map : (m v : ℕ) (p : Place) → p ≢ KeptMap m → value_of (record s { kept = store_map s.kept m v; lanes = lanes; history = history }) p ≡ value_of s p
  but_kept_map m v (KeptMap j) ne = put_other s.kept.map_at m v j (λ q. ne (ap KeptMap q))
  but_kept_map m v _ ne = refl

  pub but_reader : (m v : ℕ) (p : Place) → p ≢ Reader m → value_of (record s { readers = put s.readers m v; lanes = lanes; history = history }) p ≡ value_of s p
  but_reader m v (Reader j) ne = put_other s.readers m v j (λ q. ne (ap Reader q))
  but_reader m v _ ne = refl

  pub but_lock : (m v : ℕ) (p : Place) → p ≢ Lock m → value_of (record s { locks = put s.locks m v; lanes = lanes; history = history }) p ≡ value_of s p
  but_lock m v (Lock j) ne = put_other s.locks m v j (λ q. ne (ap Lock q))
  but_lock m v _ ne = refl

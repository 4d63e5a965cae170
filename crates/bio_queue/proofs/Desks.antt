-- Desks as a row of submitters and a row of workers.
use Rattle.std.proofs.Common.{◌≡◌, ℕ, List, map, sym, ap, ◌∙◌, subst}
use mathlib.Core.Option.{some}
use lib.ListN.{get_elem?}
use Rattle.crossbeam_queue.proofs.Lists.{at_map}
use Rattle.ticket_queue.proofs.Places.{of_map}
use Rattle.bio_queue.proofs.Parties.{map_map}

-- what holds of the image of each item, by its place, holds of each image
pub each_image : {A B : Type 0} → (Q : ℕ → B → Type 0) (f : A → B) (xs : List A) (ys : List B) → ys ≡ map f xs
    → ((k : ℕ) (a : A) → get_elem? xs k ≡ some a → Q k (f a)) → (k : ℕ) (b : B) → get_elem? ys k ≡ some b → Q k b
each_image Q f xs ys is each k b e = let m = of_map f xs k b (ap (λ l. get_elem? l k) (sym is) ∙ e) in subst (λ y. Q k y) m.2 (each k m.0 m.1)

-- an item's image stands at its place
pub image_at : {A B : Type 0} → (f : A → B) (xs : List A) (ys : List B) (k : ℕ) (a : A) → ys ≡ map f xs → get_elem? xs k ≡ some a → get_elem? ys k ≡ some (f a)
image_at f xs ys k a is e = ap (λ l. get_elem? l k) is ∙ at_map f xs k a e

-- images of images
pub images_of : {A B C : Type 0} → (h : B → C) (f : A → B) (xs : List A) (ys : List B) → ys ≡ map f xs → map h ys ≡ map (λ a. h (f a)) xs
images_of h f xs ys is = ap (map h) is ∙ map_map h f xs

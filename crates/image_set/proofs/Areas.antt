-- A loaded set with another label area, after a crash.
use Rattle.std.proofs.Common.{◌≡◌, ℕ, zero, suc, ◌<◌, Bool, List, [], ◌∷◌, length, map, get_or, Option, Some, None, refl, sym, ap, ◌∙◌, subst}
use Rattle.std.proofs.Math.ListN.{set}
use Rattle.std.specs.Option.{option_map}
use Rattle.std.specs.List.{All}
use Rattle.std.proofs.lemmas.List.{length-set, length-map, map-set, set-set}
use Rattle.std.proofs.lemmas.List.Elements.{All-set, All-nil, All-cons, All-head, All-tail}
use Rattle.std.proofs.lemmas.Simd.{map-map}
use Rattle.nvd_media.specs.declared.object.Object.TheVariants as object
use Rattle.nvd_media.specs.Images.{IsSameSet}
use Rattle.cut_words.specs.Words.{Words}
use Rattle.cut_words.specs.WordBytes.{bytes_of}
use Rattle.power_cut.specs.declared.leaving.Images.{Images as Left}
use Rattle.power_cut.specs.Left.{InTurn, LeavesAll, IsLeftOfAll, LeavesWords}
use Rattle.image_set.specs.declared.changing.OutlineLeft.{OutlineLeft}
use Rattle.image_set.specs.declared.outline.Outline.{Outline}
use Rattle.image_set.specs.Load.{area_of, bytes_kept}
use Rattle.image_set.specs.Changed.{objects_of, with_area}
use Rattle.image_set.specs.Outline.{IsCopyable, IsOutlined, LeavesOutline, image_set_with, objects_with}
use Rattle.image_set.specs.Sound.{IsArea}
use Rattle.image_set.proofs.Kept.{AreaSettled, kept_in, one_left, one_is_left}

get_map : {A B : Type 0} (f : A → B) (xs : List A) (k : ℕ) (d : A) → get_or (map f xs) k (f d) ≡ f (get_or xs k d)
get_map f [] k d = refl
get_map f (x ∷ xs) zero d = refl
get_map f (x ∷ xs) (suc k) d = get_map f xs k d

-- ---- an area is taken out

pub taken_is : (outline : Outline) (m : ℕ) (contents : List (List ℕ)) → option_map bytes_kept (get_or outline.labels m None) ≡ area_of (image_set_with outline contents) m
unfolding image_set_with
taken_is outline m contents = sym (get_map (option_map bytes_kept) outline.labels m None)

-- the set without it
abbrev pub without : Outline → ℕ → Outline
without outline m = record { nfit = outline.nfit; nfit_bytes = outline.nfit_bytes; labels = set outline.labels m None; sizes = outline.sizes; bad = outline.bad }

none_is_area : IsArea None
none_is_area = record { sized = λ words is. absurd cc; kept = λ words is. absurd cc; fit = λ words is. absurd cc }

pub outlined_without : (outline : Outline) (m : ℕ) → IsOutlined outline → IsOutlined (without outline m)
outlined_without outline m sound = record {
  table = sound.table;
  counted = sound.counted;
  regions = sound.regions;
  labels = length-set outline.labels m None ∙ sound.labels;
  bad = sound.bad;
  few = sound.few;
  areas = All-set IsArea outline.labels m None none_is_area sound.areas;
}

pub others_without : (outline : Outline) (m : ℕ) (contents : List (List ℕ)) (bytes : List ℕ)
    → with_area (image_set_with (without outline m) contents) m bytes ≡ with_area (image_set_with outline contents) m bytes
unfolding image_set_with
others_without outline m contents bytes =
    let f : Option Words → Option (List ℕ) = option_map bytes_kept in
    let same : set (map f (set outline.labels m None)) m (Some bytes) ≡ set (map f outline.labels) m (Some bytes) =
    ap (λ xs. set xs m (Some bytes)) (map-set f outline.labels m None) ∙ set-set (map f outline.labels) m None (Some bytes) in
    rw same refl

all_or : {A : Type 0} (P : A → Type 0) (xs : List A) (k : ℕ) (d : A) → P d → All P xs → P (get_or xs k d)
all_or P [] k d none all = none
all_or P (x ∷ xs) zero d none all = All-head P x xs all
all_or P (x ∷ xs) (suc k) d none all = all_or P xs k d none (All-tail P x xs all)

pub taken_settled : (outline : Outline) (m : ℕ) → IsOutlined outline → IsArea (get_or outline.labels m None)
taken_settled outline m sound = all_or IsArea outline.labels m None none_is_area sound.areas

-- ---- after a crash

all_to : {A : Type 0} (P Q : A → Type 0) (xs : List A) → ((x : A) → P x → Q x) → All P xs → All Q xs
all_to P Q [] h all = All-nil Q
all_to P Q (x ∷ xs) h all = All-cons Q x xs (h x (All-head P x xs all)) (all_to P Q xs h (All-tail P x xs all))

maps_same : {A B : Type 0} (f g : A → B) (xs : List A) → ((x : A) → f x ≡ g x) → map f xs ≡ map g xs
maps_same f g [] same = refl
maps_same f g (x ∷ xs) same = ap (λ y. y ∷ map f xs) (same x) ∙ ap (λ ys. g x ∷ ys) (maps_same f g xs same)

bytes_option : (area : Option Words) → option_map bytes_of (option_map kept_in area) ≡ option_map bytes_kept area
bytes_option None = refl
bytes_option (Some words) = refl

-- the bytes of the words are those that were loaded
same_labels : (labels : List (Option Words)) (m : ℕ) (row : List ℕ)
    → map (option_map bytes_of) (set (map (option_map kept_in) labels) m (Some row)) ≡ set (map (option_map bytes_kept) labels) m (Some (bytes_of row))
same_labels labels m row =
    map-set (option_map bytes_of) (map (option_map kept_in) labels) m (Some row)
    ∙ ap (λ xs. set xs m (Some (bytes_of row))) (map-map (option_map bytes_of) (option_map kept_in) labels ∙ maps_same (λ a. option_map bytes_of (option_map kept_in a)) (option_map bytes_kept) labels bytes_option)

-- the set after the crash, as it is saved
abbrev pub left_in : Outline → List (Option (List ℕ)) → OutlineLeft
left_in outline labels = record { nfit = outline.nfit_bytes; labels = labels; sizes = outline.sizes; bad = outline.bad }

same_objects : (outline : Outline) (m : ℕ) (row : List ℕ) (labels : List (Option (List ℕ))) → labels ≡ set (map (option_map kept_in) outline.labels) m (Some row)
    → (contents : List (List ℕ)) → IsSameSet (objects_with (left_in outline labels) contents) (objects_of (with_area (image_set_with outline contents) m (bytes_of row)))
unfolding objects_of image_set_with
same_objects outline m row labels are contents object.Mark = refl
same_objects outline m row labels are contents object.Nfit = refl
same_objects outline m row labels are contents (object.Labels k) =
    sym (get_map (option_map bytes_of) labels k None)
    ∙ ap (λ xs. get_or xs k None) (ap (map (option_map bytes_of)) are ∙ same_labels outline.labels m row)
same_objects outline m row labels are contents (object.Contents k) = refl
same_objects outline m row labels are contents (object.BadRanges k) = refl

-- after the last label area the chooser isn't asked again
pub none_asked : {C : Type 0} (picks : C → ℕ → Bool → C → Type 0) (left : List (List ℕ)) (between after : C) → InTurn (LeavesWords picks) [] left between after → after ≡ between
none_asked picks left between after turn = turn.1

pub area_left : {C : Type 0} (picks : C → ℕ → Bool → C → Type 0) (outline : Outline) (m : ℕ) (area : Words) (images : Left) (before after : C) → IsOutlined outline → m < length outline.labels
    → LeavesAll picks (set outline.labels m (Some area)) [] images before after → IsLeftOfAll (set outline.labels m (Some area)) [] images
    → LeavesOutline picks outline m area before after (left_in outline images.labels)
area_left picks outline m area images before after sound lt asked left =
    let settled = all_to IsArea AreaSettled outline.labels (λ x is. is.kept) sound.areas in
    let one = one_left picks outline.labels m area images.labels before asked.between lt settled asked.labels in
    record {
      row = one.row;
      asked = subst (λ c. LeavesWords picks area one.row before c) (sym (none_asked picks images.contents asked.between after asked.contents)) one.asked;
      left_of = one_is_left outline.labels m area one.row images.labels lt one.is left.labels;
      objects = same_objects outline m one.row images.labels one.is;
    }

pub copyable : {C : Type 0} (picks : C → ℕ → Bool → C → Type 0) (outline : Outline) (m : ℕ) (area : Words) (images : Left) (before after : C) → IsOutlined outline → m < length outline.labels
    → LeavesAll picks (set outline.labels m (Some area)) [] images before after → IsCopyable (left_in outline images.labels)
copyable picks outline m area images before after sound lt asked =
    let settled = all_to IsArea AreaSettled outline.labels (λ x is. is.kept) sound.areas in
    let one = one_left picks outline.labels m area images.labels before asked.between lt settled asked.labels in
    let labels : length images.labels ≡ length outline.labels = ap length one.is ∙ length-set (map (option_map kept_in) outline.labels) m (Some one.row) ∙ length-map outline.labels (option_map kept_in) in
    record { labels = labels ∙ sound.labels; bad = sound.bad; few = sound.few }

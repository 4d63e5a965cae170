-- The objects of a set that were read, module by module.
use Rattle.std.proofs.Common.{◌≡◌, ℕ, ◌+◌, ◌%◌, ◌<◌, List, [], ◌∷◌, ◌++◌, length, map, take, get_or, Option, Some, None, sym, ap, ◌∙◌, subst, arith}
use Rattle.std.specs.Prelude.{unwrap_or}
use Rattle.std.specs.Option.{option_map}
use Rattle.std.specs.List.{All, range_with_len}
use Rattle.std.proofs.lemmas.List.{get_or-map, length-map, map-append, take_more}
use Rattle.std.proofs.lemmas.List.Elements.{All-get_or}
use Rattle.std.proofs.lemmas.Simd.{map-map}
use Rattle.std.proofs.lemmas.List.FromFn.{map-range_with_len_more, get_or-map-range_with_len}
use Rattle.nvd_media.specs.declared.object.Object.TheVariants as object
use Rattle.nvd_media.specs.Images.{Images, bytes_of}
use Rattle.cut_words.specs.Words.{Words, settled}
use Rattle.nfit_reader.specs.declared.table.Nfit.{Nfit}
use Rattle.label_index.specs.Area.{IsAreaSize}
use Rattle.image_set.specs.declared.sizes.Sizes.{Sizes}
use Rattle.image_set.specs.Sizes.{sizes_of, contents_of, AreSizesOf, IsContentsSize, IsSized}
use Rattle.image_set.specs.Outline.{HasContents}
use Rattle.image_set.specs.Known.{AreKnown, IsChecked}
use Rattle.image_set.specs.Sound.{size_of, IsArea, AreWords, IsContents}
use Rattle.image_set.proofs.Counting.{contents_by}

-- an existing object was read
pub there_told : (x : Option (List ℕ)) (found : Option ℕ) (n : ℕ) (bytes : List ℕ) → found ≡ option_map length x → found ≡ Some n → bytes ≡ unwrap_or x [] → Some bytes ≡ x
there_told None found n bytes told is read = absurd (let e = sym told ∙ is in cc)
there_told (Some all) found n bytes told is read = ap (λ (b : List ℕ). Some b) read

pub area_whole : (n : ℕ) → IsAreaSize n → n % 8 ≡ 0
area_whole n a = let m = a.multiple in omega arith

pub area_sound : (words : Words) (n : ℕ) → size_of words ≡ n → IsAreaSize n → words ≡ settled words.kept → AreWords words.kept → IsArea (Some words)
area_sound words n count sized kept fit = record {
  sized = λ w is. let same : words ≡ w = cc in subst (λ (v : Words). IsAreaSize (size_of v)) same (subst IsAreaSize (sym count) sized);
  kept = λ w is. let same : words ≡ w = cc in subst (λ (v : Words). v ≡ settled v.kept) same kept;
  fit = λ w is. let same : words ≡ w = cc in subst (λ (v : Words). AreWords v.kept) same fit;
}

-- the sizes that were checked are known, and still are after the source was read
pub known_still : (held held' : Option Images) (nfit : Nfit) (bytes : List ℕ) (sizes : List Sizes) → IsChecked held nfit bytes sizes → held' ≡ held → AreKnown held' sizes
known_still held held' nfit bytes sizes checked same = record {
  few = let f = checked.modules.few in let n = checked.count in omega arith;
  sized = checked.sized.each;
  there = λ set told. checked.there set (sym same ∙ told);
}

-- ---- a list by modules

pub list_on : {B : Type 0} (g : ℕ → B) (xs : List B) (x : B) (m : ℕ) → xs ≡ map g (range_with_len 0 m) → x ≡ g m → xs ++ x ∷ [] ≡ map g (range_with_len 0 (m + 1))
list_on g xs x m so_far is =
    ap (λ front. front ++ x ∷ []) so_far ∙ ap (λ last. map g (range_with_len 0 m) ++ last ∷ []) is ∙ sym (map-range_with_len_more g 0 m m (omega arith))

pub map_on : {A B : Type 0} (f : A → B) (g : ℕ → B) (xs : List A) (x : A) (m : ℕ) → map f xs ≡ map g (range_with_len 0 m) → f x ≡ g m
    → map f (xs ++ x ∷ []) ≡ map g (range_with_len 0 (m + 1))
map_on f g xs x m so_far is = map-append f xs (x ∷ []) ∙ list_on g (map f xs) (f x) m so_far is

-- the sizes of a module
pub sizes_at : (set : Images) (sizes : List Sizes) (m : ℕ) (d : Sizes) → AreSizesOf set sizes → m < length sizes → get_or sizes m d ≡ sizes_of set m
sizes_at set sizes m d are lt =
    ap (λ (xs : List Sizes). get_or xs m d) are ∙ get_or-map-range_with_len (sizes_of set) 0 (length sizes) m m d lt (omega arith)

-- the contents of one more module
pub contents_on : (sizes : List ℕ) (contents : List Words) (words : Words) (m : ℕ) → map size_of contents ≡ take m sizes → m < length sizes
    → size_of words ≡ get_or sizes m 0 → map size_of (contents ++ words ∷ []) ≡ take (m + 1) sizes
contents_on sizes contents words m so_far lt is =
    map-append size_of contents (words ∷ [])
    ∙ ap (λ (front : List ℕ). front ++ size_of words ∷ []) so_far ∙ ap (λ (last : ℕ). take m sizes ++ last ∷ []) is ∙ sym (take_more sizes m 0 lt)

-- the sizes that were checked are those of contents
pub contents_sized : (sizes : List Sizes) → All IsSized sizes → All IsContentsSize (contents_of sizes)
contents_sized sizes each k d lt =
    let inside : k < length sizes = omega (arith, lt, length-map sizes (λ (s : Sizes). s.contents)) in
    let none : Sizes = record { labels = None; contents = 0; bad = None } in
    let sized : IsSized (get_or sizes k none) = All-get_or IsSized sizes k none inside each in
    subst IsContentsSize (sym (get_or-map (λ (s : Sizes). s.contents) sizes k none d inside)) (record { some = sized.some; multiple = sized.multiple })

-- and the source's contents have them
pub contents_there : (set : Images) (sizes : List Sizes) (of_contents : List ℕ) → of_contents ≡ contents_of sizes → AreSizesOf set sizes → HasContents of_contents set
contents_there set sizes of_contents is are =
    let long : length of_contents ≡ length sizes = ap length is ∙ length-map sizes (λ (s : Sizes). s.contents) in
    is ∙ ap contents_of are ∙ contents_by set (range_with_len 0 (length sizes))
    ∙ sym (map-map (λ row. length row) (λ (k : ℕ). bytes_of set (object.Contents k)) (range_with_len 0 (length sizes)))
    ∙ ap (λ n. map (λ row. length row) (map (λ (k : ℕ). bytes_of set (object.Contents k)) (range_with_len 0 n))) (sym long)

pub contents_sound : (words : Words) (bytes : ℕ) → IsContentsSize bytes → size_of words ≡ bytes → words ≡ settled words.kept → AreWords words.kept → IsContents words
contents_sound words bytes sized count kept fit = record {
  some = let a = sized.some in omega arith;
  multiple = let a = sized.multiple in omega arith;
  kept = kept;
  fit = fit;
}

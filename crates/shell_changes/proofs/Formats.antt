-- Contents in which an arena is formatted, and the set that is saved with them.
use Rattle.std.proofs.Common.{◌≡◌, ℕ, Bool, true, false, List, [], ◌++◌, length, map, Option, Some, None, refl, sym, ap, ◌∙◌, subst, append-nil}
use Rattle.std.specs.Option.{option_map}
use Rattle.std.proofs.lemmas.Bool.{leb-true}
use Rattle.std.proofs.lemmas.List.{take_all}
use Rattle.std.proofs.lemmas.Simd.{map-map}
use Rattle.nvd_media.specs.Images.{Images, IsSameSet}
use Rattle.cut_words.specs.Words.{Words, IsLeft, Step, after, settled}
use Rattle.cut_words.specs.WordBytes.{bytes_of, words_in}
use Rattle.cut_words.specs.Fuses.{allowed, burnt, lasts}
use Rattle.arena_open.specs.Format.{IsNewArena, format_count, format_steps}
use Rattle.power_cut.specs.Left.{Each}
use Rattle.power_cut.specs.Namespace.{Namespace, beside_of, words_of}
use Rattle.namespace_map.specs.Namespaces.{Namespaces}
use Rattle.namespace_map.specs.declared.commands.Command.{Command}
use Rattle.namespace_map.specs.declared.commands.Command.TheVariants.{Create, Delete, Rename, Claim, Unclaim}
use Rattle.namespace_map.specs.declared.commands.CreateSpec.{CreateSpec}
use Rattle.namespace_map.specs.Commands.{set_of, share_of}
use Rattle.namespace_areas.specs.Refusals.{offset_for}
use Rattle.namespace_areas.proofs.Seen.{left_kept}
use Rattle.image_set.specs.Load.{ImageSet, bytes_kept}
use Rattle.image_set.specs.Changed.{objects_of}
use Rattle.sector_namespaces.specs.View.{rows_of}
use Rattle.sector_namespaces.specs.Creation.{IsFormattedIn, has_sectors, layout_for, place_in}
use Rattle.shell_changes.specs.Areas.{with_labels}
use Rattle.shell_changes.specs.Going.{FormatsIn}
use Rattle.namespace_ops.specs.Counted.{makes_sectors}
use Rattle.shell_changes.specs.Work.{Arena, AreFormatted, Formats, arena_by, arena_of, count_of, with_contents}
use Rattle.shell_changes.proofs.Areas.{HasWhole, IsSavedAs}
use Rattle.shell_changes.proofs.Contents.{left_beside, left_sizes, left_words}

-- ---- the words of a format

module _ (set : ImageSet) (contents : List Words) (objects : List (Option (List ℕ)) → List (List ℕ) → Images) (is : HasWhole set contents objects) (ns : Namespaces) (spec : CreateSpec) where
  abbrev place : List Words → Namespace
  place rows = place_in ns spec rows

  abbrev arena : Arena
  arena = record { place = place_in ns spec; layout = layout_for spec; uuid = spec.uuid }

  pub formatted : (made : List Words) (rows : List (List ℕ)) (fuse left : Option ℕ) → IsFormattedIn (place_in ns spec) (layout_for spec) spec.uuid contents made fuse left (lasts fuse (format_count (layout_for spec)))
      → Each IsLeft made rows → AreFormatted (record { place = place_in ns spec; layout = layout_for spec; uuid = spec.uuid }) set fuse made rows
  formatted made rows fuse left it each =
      let region = set_of ns spec.region in
      let offset = offset_for ns spec in
      let raw = share_of region spec.size in
      let words : IsLeft (words_of (place made)) (words_of (place (map settled rows))).kept = left_words region offset raw made rows each in
      let beside : beside_of (place (map settled rows)) ≡ beside_of (place contents) = left_beside region offset raw made rows each contents is.settled it.beside in
      let sizes : map (λ (row : List ℕ). length row) rows ≡ map (λ (w : Words). length w.kept) contents = left_sizes region offset raw made rows each contents is.settled it.beside it.counts in
      record {
        words = it.formatted.made.words ∙ ap (λ (ws : List Words). after (words_of (place ws)) (allowed fuse (format_steps 0 (layout_for spec) spec.uuid spec.uuid))) (sym is.are);
        others = it.beside ∙ ap (λ (ws : List Words). beside_of (place ws)) (sym is.are);
        left = each;
        sizes = sizes ∙ ap (λ (ws : List Words). map (λ (w : Words). length w.kept) ws) (sym is.are) ∙ map-map (λ (w : Words). length w.kept) (λ (bytes : List ℕ). settled (words_in bytes)) set.contents;
        beside = beside ∙ ap (λ (ws : List Words). beside_of (place ws)) (sym is.are);
        opens = λ long.
            let kept : (words_of (place (map settled rows))).kept ≡ (words_of (place made)).kept = left_kept (words_of (place made)) (words_of (place (map settled rows))).kept (it.formatted.settles long) words in
            subst (λ (ws : List ℕ). IsNewArena (layout_for spec) spec.uuid spec.uuid ws) (sym kept) (it.formatted.opens long);
      }

-- a fuse that lasts for all steps allows them
allowed_all : (fuse : Option ℕ) (steps : List Step) → true ≡ lasts fuse (length steps) → allowed fuse steps ≡ steps
allowed_all None steps all = refl
allowed_all (Some n) steps all = take_all n steps (leb-true (length steps) n (sym all))

-- a format that is whole is made of all its steps
whole_formatted : (arena : Arena) (set : ImageSet) (fuse : Option ℕ) (contents : List Words) (rows : List (List ℕ)) → true ≡ lasts fuse (length (format_steps 0 arena.layout arena.uuid arena.uuid))
    → lasts fuse (format_count arena.layout) ≡ true → AreFormatted arena set fuse contents rows → AreFormatted arena set None contents rows
whole_formatted arena set fuse contents rows all long f = record {
  words = f.words ∙ ap (λ (ss : List Step). after (words_of (arena.place (rows_of set.contents))) ss) (allowed_all fuse (format_steps 0 arena.layout arena.uuid arena.uuid) all);
  others = f.others;
  left = f.left;
  sizes = f.sizes;
  beside = f.beside;
  opens = λ always. f.opens long;
}

-- ---- the set that is saved

-- A set that is saved with these label areas, and with what is left of contents in which an arena is formatted, if there is one.
pub record SavedAs (leaves : ℕ → List (Option Words) → List (Option (List ℕ)) → Type 0) (arena : Option Arena) (set : ImageSet) (words : List (Option Words)) (objects : List (Option (List ℕ)) → List (List ℕ) → Images) (made : List Words) (fuse : Option ℕ) (rows : List (Option (List ℕ))) (made_left : List (List ℕ)) : Type 0 where
  pub contents : List Words
  pub left : List (List ℕ)
  pub now : ImageSet
  pub formats : Formats arena set fuse contents left now
  pub labels : now.labels ≡ map (option_map bytes_kept) words
  pub same : IsSameSet (objects rows made_left) (objects_of (with_labels now (map (option_map bytes_of) rows)))
  pub asks : (seed : ℕ) (areas : List (Option Words)) → leaves seed areas rows → leaves seed (areas ++ map (λ w. Some w) made) (rows ++ map (λ row. Some row) made_left)
      → leaves seed (areas ++ map (λ w. Some w) contents) (rows ++ map (λ row. Some row) left)

module _ (leaves : ℕ → List (Option Words) → List (Option (List ℕ)) → Type 0) (set : ImageSet) (words : List (Option Words)) (contents : List Words) (objects : List (Option (List ℕ)) → List (List ℕ) → Images) (labels : set.labels ≡ map (option_map bytes_kept) words)
    (made : List Words) (rows : List (Option (List ℕ))) (made_left : List (List ℕ)) (each : Each IsLeft made made_left) where
  -- contents are as they were read
  pub saved_none : IsSavedAs set words contents objects → (fuse : Option ℕ) → made ≡ contents → SavedAs leaves None set words objects made fuse rows made_left
  saved_none is fuse same = record {
    contents = [];
    left = [];
    now = set;
    formats = (refl, refl, refl);
    labels = is.labels;
    same = is.same rows made_left (subst (λ (ws : List Words). Each IsLeft ws made_left) same each);
    asks = λ seed areas first all. subst (λ (rs : List (Option (List ℕ))). leaves seed (areas ++ []) rs) (sym (append-nil rows)) (subst (λ (ws : List (Option Words)). leaves seed ws rows) (sym (append-nil areas)) first);
  }

  saved_by : (ns : Namespaces) (spec : CreateSpec) (fuse : Option ℕ) (b : Bool) → (b ≡ false → IsSavedAs set words contents objects) → (b ≡ true → HasWhole set contents objects) → FormatsIn (arena_by ns spec b) contents made fuse
      → SavedAs leaves (arena_by ns spec b) set words objects made fuse rows made_left
  saved_by ns spec fuse false plain whole same = saved_none (plain refl) fuse same
  saved_by ns spec fuse true plain whole it = record {
    contents = made;
    left = made_left;
    now = with_contents set made_left;
    formats = (formatted set contents objects (whole refl) ns spec made made_left fuse (burnt fuse (format_count (layout_for spec))) it each, refl);
    labels = labels;
    same = (whole refl).same rows made_left;
    asks = λ seed areas first all. all;
  }

  -- by the command
  pub saved_as : (ns : Namespaces) (c : Command) (fuse : Option ℕ) → (makes_sectors c ≡ false → IsSavedAs set words contents objects) → (makes_sectors c ≡ true → HasWhole set contents objects) → FormatsIn (arena_of ns c) contents made fuse
      → SavedAs leaves (arena_of ns c) set words objects made fuse rows made_left
  saved_as ns (Create spec) fuse plain whole it = saved_by ns spec fuse (has_sectors spec.make) plain whole it
  saved_as ns (Delete uuid) fuse plain whole it = saved_none (plain refl) fuse it
  saved_as ns (Rename uuid name) fuse plain whole it = saved_none (plain refl) fuse it
  saved_as ns (Claim uuid) fuse plain whole it = saved_none (plain refl) fuse it
  saved_as ns (Unclaim uuid) fuse plain whole it = saved_none (plain refl) fuse it

  -- after all steps of the format
  pub saved_whole : (arena : Option Arena) (fuse : Option ℕ) → FormatsIn arena contents made fuse → lasts fuse (count_of arena) ≡ true → SavedAs leaves arena set words objects made fuse rows made_left
      → SavedAs leaves arena set words objects made None rows made_left
  saved_whole None fuse it long at = record { contents = at.contents; left = at.left; now = at.now; formats = at.formats; labels = at.labels; same = at.same; asks = at.asks }
  saved_whole (Some arena) fuse it long at = record {
    contents = at.contents;
    left = at.left;
    now = at.now;
    formats = (whole_formatted arena set fuse at.contents at.left (sym long ∙ it.formatted.made.all_made) long at.formats.0, at.formats.1);
    labels = at.labels;
    same = at.same;
    asks = at.asks;
  }

-- A script without sessions is served, so what serving may come to isn't empty.
use Rattle.std.proofs.Common.{◌≡◌, ℕ, Bool, List, [], ◌∷◌, length, map, Option, Some, None, refl, sym, ap, ◌∙◌, subst, arith}
use Rattle.std.specs.Prelude.{slice_index_or}
use Rattle.std.specs.Option.{option_map}
use Rattle.cut_words.specs.Words.{Words, settled}
use Rattle.cut_words.specs.WordBytes.{words_in}
use Rattle.nvd_media.specs.Images.{Images}
use Rattle.image_set.specs.Changed.{objects_of}
use Rattle.image_set.specs.Load.{ImageSet}
use Rattle.namespace_areas.specs.Seen.{areas_shown}
use Rattle.namespace_areas.proofs.Seen.{left_kept}
use Rattle.power_cut.specs.Left.{Each, IsLeftOf}
use Rattle.sector_namespaces.specs.View.{rows_of}
use Rattle.served_namespaces.specs.Places.{KeepsBeside}
use Rattle.session_account.specs.Journal.{AreLeft, IsJournal}
use Rattle.session_account.specs.Words.{AreasHold}
use Rattle.shell_changes.specs.Areas.{areas_in, with_labels}
use Rattle.shell_changes.proofs.Areas.{rows_shown}
use Rattle.shell_reports.specs.declared.status.Ending.TheVariants as ending
use Rattle.shell_sectors.specs.Found.{with_contents}
use Rattle.shell_serve.proofs.Journals.{none_recovers}
use Rattle.shell_serve.specs.Laws.{EmptyServes}
use Rattle.shell_serve.proofs.Choosing.{settled_in_turn}

abbrev rows : ImageSet → List (List ℕ)
rows loaded = map words_in loaded.contents

abbrev set_of : ImageSet → Images
set_of loaded = objects_of (with_labels (with_contents loaded (rows loaded)) loaded.labels)

rows_back : (contents : List (List ℕ)) → map settled (map words_in contents) ≡ rows_of contents
rows_back [] = refl
rows_back (bytes ∷ contents) = ap (λ (ws : List Words). settled (words_in bytes) ∷ ws) (rows_back contents)

all_kept : (labels rows : List (Option (List ℕ))) → Each IsLeftOf (map (option_map settled) labels) rows → rows ≡ labels
all_kept [] rows none = none
all_kept (None ∷ labels) rows (first, rest, is, here, more) = is ∙ ap (λ (l : Option (List ℕ)). l ∷ rest) here ∙ ap (λ (ls : List (Option (List ℕ))). None ∷ ls) (all_kept labels rest more)
all_kept (Some values ∷ labels) rows (first, rest, is, (row, has, left), more) =
    is ∙ ap (λ (l : Option (List ℕ)). l ∷ rest) (has ∙ ap (λ (v : List ℕ). Some v) (left_kept (settled values) row refl left))
    ∙ ap (λ (ls : List (Option (List ℕ))). Some values ∷ ls) (all_kept labels rest more)

pub empty_serves : {C : Type 0} (begins : C → ℕ → C → Type 0) (picks : C → ℕ → Bool → C → Type 0) (choose : C) → EmptyServes begins picks choose
unfolding IsJournal AreLeft AreasHold
empty_serves begins picks choose seed begun begin text sets loaded labels areas kept shown apart =
    let same : areas_shown labels ≡ areas = sym (rows_shown labels) ∙ ap areas_in (sym kept) ∙ shown in (
      record { ending = ending.Done; text = text []; saved = Some (set_of loaded) },
      record {
        replies = [];
        journal = [];
        histories = λ place k. [];
        left = areas;
        label_words = labels;
        rows = rows loaded;
        commands = tt;
        legal = λ place d h. absurd (omega (arith, h));
        accounts = record {
          count = refl;
          each = λ q h. absurd (omega (arith, h));
          cause = λ q cut. absurd (cc);
          no_entry = tt;
          no_stand = λ place k is. tt;
        };
        labels = refl;
        recover = none_recovers sets _ _;
        disjoint = apart;
        survive = λ place d h. absurd (omega (arith, h));
        beside = subst (λ (ws : List Words). KeepsBeside sets [] (rows_of loaded.contents) ws) (sym (rows_back loaded.contents)) (record { sizes = refl; same = λ which k outside. refl });
        chosen = record {
          pending = map (option_map settled) labels;
          hold = refl;
          due = λ rows left. ap areas_shown (all_kept labels rows left) ∙ same;
          arenas = record {
            words = [];
            parts = [];
            words_count = refl;
            parts_count = refl;
            each = λ place d h. absurd (omega (arith, h));
            chosen = (begun, begun, begin, settled_in_turn picks labels begun);
          };
        };
        saved = record {
          set = set_of loaded;
          shown = same;
          words = record {
            unread = λ m none. ap (λ (ls : List (Option (List ℕ))). slice_index_or ls m None) (sym kept);
            sizes = ap (map (option_map length)) (sym kept);
            objects = λ o. ap (λ (ls : List (Option (List ℕ))). objects_of (with_labels (with_contents loaded (rows loaded)) ls) o) kept;
          };
          has = record { labels = loaded.labels; shown = shown; unread = λ m e. refl; sizes = refl; objects = λ o. refl };
          saves = record { ends = refl; says = refl; saved = set_of loaded; saves = refl; same = λ o. refl };
        };
      },
      refl,
    )

-- What a command on namespaces comes to, by what became of areas and contents.
use Rattle.std.proofs.Common.{◌≡◌, ℕ, ◌+◌, ◌-◌, ◌<◌, Bool, true, false, List, [], ◌++◌, map, Option, Some, None, refl, sym, ap, ◌∙◌, subst, arith, append-nil}
use Rattle.std.proofs.Math.Nat.{add-zero}
use Rattle.std.specs.Prelude.{MatchBool, nat_le}
use Rattle.std.proofs.lemmas.Bool.{false≢true, leb-false}
use Rattle.nvd_media.specs.Images.{Images}
use Rattle.cut_words.specs.Words.{Words}
use Rattle.cut_words.specs.Fuses.{burnt, lasts}
use Rattle.namespace_areas.specs.declared.area.Area.{Area}
use Rattle.namespace_map.specs.declared.refused.OpRefused.{OpRefused}
use Rattle.namespace_map.specs.Areas.{Area as SeenArea, Change, IsLeftBy, all_changed, steps_of_all}
use Rattle.power_cut.specs.Left.{Each, IsLeftOf}
use Rattle.namespace_areas.specs.Seen.{AreLeft, areas_seen, areas_shown, words_of}
use Rattle.namespace_areas.specs.Opening.{opened_as}
use Rattle.namespace_areas.specs.Steps.{all_rows, rows_of, words_after}
use Rattle.namespace_areas.specs.Went.{Went, size_of, unready}
use Rattle.namespace_areas.proofs.Opening.{row_of}
use Rattle.namespace_areas.proofs.Seen.{left_shown}
use Rattle.namespace_areas.proofs.Steps.{rows_left}
use Rattle.namespace_areas.proofs.Went.{steps_both, went_cut}
use Rattle.std.specs.Option.{option_map}
use Rattle.image_set.specs.Load.{ImageSet, bytes_kept}
use Rattle.shell_reports.specs.declared.status.Ending.{Ending}
use Rattle.shell_reports.specs.declared.status.Ending.TheVariants as ending
use Rattle.shell_reports.specs.declared.power.Power.{Power}
use Rattle.shell_reports.specs.Outcome.{Outcome}
use Rattle.shell_reports.specs.Saved.{IsSaving}
use Rattle.shell_reports.specs.Cut.{cut_text, done_text}
use Rattle.shell_reports.specs.Faults.{refusal_text, refused_outcome}
use Rattle.shell_changes.specs.Going.{FormatsIn, SavesCut, SavesDone}
use Rattle.shell_changes.specs.Namespaces.{Ends, Goes, IsPowerCut, IsDone}
use Rattle.shell_changes.specs.Work.{Arena, Work, begun, count_of, label_changes, label_part, label_steps, steps_of_work}
use Rattle.shell_changes.specs.Areas.{HasRows, rows_in}
use Rattle.shell_changes.proofs.Areas.{IsSavedAs, has_rows, rows_opened}
use Rattle.shell_changes.proofs.Behind.{around, label_long, label_short, lasts_three, lasts_two, left_between, short_first, went_around, words_between}
use Rattle.shell_changes.proofs.Formats.{SavedAs, saved_none, saved_whole}

-- the steps of power that doesn't last
short_of : (power : Option ℕ) (count : ℕ) → lasts power count ≡ false → (steps : ℕ) × (power ≡ Some steps)
short_of None count short = absurd (false≢true (sym short))
short_of (Some steps) count short = (steps, refl)

-- a set is the one that it is
saving_itself : (e : Ending) (text : List ℕ) (set : Images) (outcome : Outcome) (s : IsSaving e text set outcome) → IsSaving e text s.saved outcome
saving_itself e text set outcome s = record { ends = s.ends; says = s.says; saved = s.saved; saves = s.saves; same = λ o. refl }

short_left : (first format n : ℕ) → n - first < format → first + (n - first - format) ≡ first
short_left first format n lt = omega (arith, lt)

three : (a b c t : ℕ) → t ≡ a + c → t + b ≡ a + b + c
three a b c t is = omega (arith, is)

three_first : (a b c t : ℕ) → t ≡ a + c → t + b ≡ a + (b + c)
three_first a b c t is = omega (arith, is)

-- within the format all label steps are recovery's
within : (first format n : ℕ) → nat_le first n ≡ true → nat_le format (n - first) ≡ false → label_part first format n ≡ first
within first format n long short =
    let lt : n - first < format = leb-false format (n - first) short in
    label_long first format n long ∙ short_left first format n lt

module _ (leaves : ℕ → List (Option Words) → List (Option (List ℕ)) → Type 0) (set : ImageSet) (words : List (Option Words)) (contents : List Words) (objects : List (Option (List ℕ)) → List (List ℕ) → Images) (labels : set.labels ≡ map (option_map bytes_kept) words) (fit : rows_in set ≡ map row_of words) (power : Power) (outcome : Outcome) where
  -- the label areas as they were opened, and what they show
  abbrev opened : List Area
  opened = map opened_as words

  abbrev seen : List (Option SeenArea)
  seen = areas_seen (map opened_as words)

  rows_now : rows_of (map opened_as words) ≡ rows_in set
  rows_now = rows_opened words ∙ sym fit

  -- ---- one way to end

  all_done : (work : Work) (news : List Area) (fuse left : Option ℕ) (made : List Words) → Went opened news fuse left (label_changes work) true → (s : SavesDone objects news made outcome)
      → SavedAs leaves work.arena set words objects made None s.rows s.contents_left → IsDone set seen work outcome
  all_done work news fuse left made went s at =
      let last : s.rows ≡ all_rows (rows_in set) (label_changes work) = rows_left news s.rows (went.held refl) s.kept ∙ went.rows refl ∙ ap (λ rs. all_rows rs (label_changes work)) rows_now in
      record {
        shown = ap areas_shown (sym last) ∙ left_shown news s.rows (went.held refl) s.kept ∙ went.done refl;
        contents = at.contents;
        contents_left = at.left;
        now = at.now;
        formats = at.formats;
        set = s.saves.saved;
        has = subst (λ rs. HasRows at.now rs s.saves.saved) last (has_rows at.now words at.labels news s.rows s.saves.saved went.beside went.sizes s.kept (λ o. s.saves.same o ∙ at.same o));
        saves = saving_itself ending.Done done_text (objects s.rows s.contents_left) outcome s.saves;
      }

  all_cut : (work : Work) (news : List Area) (n : ℕ) (made : List Words) → power.steps ≡ Some n → map words_of news ≡ words_after (rows_in set) (label_changes work) (label_steps seen work n)
      → ((rows : List (Option (List ℕ))) → AreLeft news rows → IsLeftBy seen (label_changes work) (label_steps seen work n) (areas_shown rows))
      → map unready news ≡ map unready opened → map size_of news ≡ map size_of opened → (s : SavesCut leaves objects power news made outcome)
      → SavedAs leaves (begun (lasts power.steps (steps_of_all seen work.recovery)) work.arena) set words objects made (burnt power.steps (steps_of_all seen work.recovery)) s.rows s.contents_left
      → IsPowerCut leaves set seen work power outcome
  all_cut work news n made given now leave beside sizes s at =
      let same : s.steps ≡ n = (let both : Some s.steps ≡ Some n = sym s.given ∙ given in cc) in
      record {
        steps = n;
        given = given;
        leave = λ rows left_of. leave rows (subst (λ (ws : List (Option Words)). Each IsLeftOf ws rows) (sym now) left_of);
        contents = at.contents;
        contents_left = at.left;
        now = at.now;
        formats = at.formats;
        rows = s.rows;
        asked = subst (λ (ws : List (Option Words)). leaves power.seed (ws ++ map (λ w. Some w) at.contents) (s.rows ++ map (λ row. Some row) at.left)) now (at.asks power.seed (map words_of news) s.asked_first s.asked);
        left_of = subst (λ (ws : List (Option Words)). Each IsLeftOf ws s.rows) now s.kept;
        set = s.saves.saved;
        has = has_rows at.now words at.labels news s.rows s.saves.saved beside sizes s.kept (λ o. s.saves.same o ∙ at.same o);
        saves = subst (λ (k : ℕ). IsSaving ending.PowerCut (cut_text k) s.saves.saved outcome) same (saving_itself ending.PowerCut (cut_text s.steps) (objects s.rows s.contents_left) outcome s.saves);
      }

  goes_whole : (work : Work) (refusal : Option OpRefused) → lasts power.steps (steps_of_work seen work) ≡ true → Ends set seen work refusal outcome → Goes leaves set seen work refusal power outcome
  goes_whole work refusal long ends = subst (λ b. MatchBool b (Ends set seen work refusal outcome) (IsPowerCut leaves set seen work power outcome)) (sym long) ends

  goes_cut : (work : Work) (refusal : Option OpRefused) → lasts power.steps (steps_of_work seen work) ≡ false → IsPowerCut leaves set seen work power outcome → Goes leaves set seen work refusal power outcome
  goes_cut work refusal short cut = subst (λ b. MatchBool b (Ends set seen work refusal outcome) (IsPowerCut leaves set seen work power outcome)) (sym short) cut

  -- ---- recovery first

  module _ (first own : List Change) (arena : Option Arena) where
    -- power was cut in recovery, whatever the command would come to
    pub cut_in_recovery : IsSavedAs set words contents objects → (refusal : Option OpRefused) (news : List Area) (left : Option ℕ) → Went opened news power.steps left first false → SavesCut leaves objects power news contents outcome
        → Goes leaves set seen (record { recovery = first; arena = arena; own = own }) refusal power outcome
    cut_in_recovery is refusal news left went s =
        let all = went_cut opened news power.steps left first own went in
        let (n, given) = short_of power.steps (steps_of_all seen first) (sym went.made) in
        let all_n : Went opened news (Some n) left (first ++ own) false = subst (λ (f : Option ℕ). Went opened news f left (first ++ own) false) given all in
        let k_is : label_steps seen (record { recovery = first; arena = arena; own = own }) n ≡ n =
        label_short (steps_of_all seen first) (count_of arena) n (ap (λ (f : Option ℕ). lasts f (steps_of_all seen first)) (sym given) ∙ sym went.made) in
        goes_cut (record { recovery = first; arena = arena; own = own }) refusal (short_first power.steps (steps_of_all seen (first ++ own)) (count_of arena) (sym all.made))
        (all_cut (record { recovery = first; arena = arena; own = own }) news n contents given
        (all_n.makes.words ∙ ap (λ rs. words_after rs (first ++ own) n) rows_now ∙ ap (λ (k : ℕ). words_after (rows_in set) (first ++ own) k) (sym k_is))
        (λ rows left_of. subst (λ (k : ℕ). IsLeftBy seen (first ++ own) k (areas_shown rows)) (sym k_is) (all_n.cut n refl rows left_of))
        all.beside all.sizes s
        (subst (λ (b : Bool). SavedAs leaves (begun b arena) set words objects contents (burnt power.steps (steps_of_all seen first)) s.rows s.contents_left) went.made
        (saved_none leaves set words contents objects labels contents s.rows s.contents_left s.left is (burnt power.steps (steps_of_all seen first)) refl)))

    -- ---- recovery was made

    module _ (mid : List Area) (left : Option ℕ) (one : Went opened mid power.steps left first true) where
      -- by how long power lasts
      total : steps_of_all (areas_seen mid) own ≡ steps_of_all (all_changed seen first) own
      total = ap (λ (os : List (Option SeenArea)). steps_of_all os own) (one.done refl)

      pub all_lasts : lasts left (count_of arena) ≡ true → lasts power.steps (steps_of_work seen (record { recovery = first; arena = arena; own = own })) ≡ lasts (burnt left (count_of arena)) (steps_of_all (areas_seen mid) own)
      all_lasts long =
          let is = three (steps_of_all seen first) (count_of arena) (steps_of_all (all_changed seen first) own) (steps_of_all seen (first ++ own)) (steps_both first own seen) in
          ap (lasts power.steps) is
          ∙ lasts_three power.steps (steps_of_all seen first) (count_of arena) (steps_of_all (all_changed seen first) own) (sym one.made) (ap (λ (f : Option ℕ). lasts f (count_of arena)) (sym one.left_is) ∙ long)
          ∙ ap (λ (f : Option ℕ). lasts (burnt f (count_of arena)) (steps_of_all (all_changed seen first) own)) (sym one.left_is)
          ∙ ap (lasts (burnt left (count_of arena))) (sym total)

      short_format : lasts left (count_of arena) ≡ false → lasts power.steps (steps_of_work seen (record { recovery = first; arena = arena; own = own })) ≡ false
      short_format short =
          let is = three_first (steps_of_all seen first) (count_of arena) (steps_of_all (all_changed seen first) own) (steps_of_all seen (first ++ own)) (steps_both first own seen) in
          ap (lasts power.steps) is ∙ lasts_two power.steps (steps_of_all seen first) (count_of arena) (steps_of_all (all_changed seen first) own) (sym one.made)
          (ap (λ (f : Option ℕ). lasts f (count_of arena)) (sym one.left_is) ∙ short)

      -- what is left of contents, by an arena of which the format is begun
      at_begun : (news : List Area) (made : List Words) (rows : List (Option (List ℕ))) (made_left : List (List ℕ)) → SavedAs leaves arena set words objects made left rows made_left
          → SavedAs leaves (begun (lasts power.steps (steps_of_all seen first)) arena) set words objects made (burnt power.steps (steps_of_all seen first)) rows made_left
      at_begun news made rows made_left at =
          subst (λ (b : Bool). SavedAs leaves (begun b arena) set words objects made (burnt power.steps (steps_of_all seen first)) rows made_left) one.made
          (subst (λ (f : Option ℕ). SavedAs leaves arena set words objects made f rows made_left) one.left_is at)

      -- it was carried out to its end
      pub done_after : (news : List Area) (made : List Words) (last : Option ℕ) → lasts left (count_of arena) ≡ true → FormatsIn arena contents made left → Went mid news (burnt left (count_of arena)) last own true
          → (s : SavesDone objects news made outcome) → SavedAs leaves arena set words objects made left s.rows s.contents_left
          → Goes leaves set seen (record { recovery = first; arena = arena; own = own }) None power outcome
      done_after news made last long it two s at =
          goes_whole (record { recovery = first; arena = arena; own = own }) None (all_lasts long ∙ sym two.made)
          (all_done (record { recovery = first; arena = arena; own = own }) news (around (steps_of_all seen first) (count_of arena) power.steps) last made (went_around opened mid news power.steps left last first own (count_of arena) true one two) s
          (saved_whole leaves set words contents objects labels made s.rows s.contents_left s.left arena left it long at))

      -- power was cut in its label changes
      pub cut_after : (news : List Area) (made : List Words) (last : Option ℕ) → lasts left (count_of arena) ≡ true → Went mid news (burnt left (count_of arena)) last own false
          → (s : SavesCut leaves objects power news made outcome) → SavedAs leaves arena set words objects made left s.rows s.contents_left
          → Goes leaves set seen (record { recovery = first; arena = arena; own = own }) None power outcome
      cut_after news made last long two s at =
          let total_short : lasts power.steps (steps_of_work seen (record { recovery = first; arena = arena; own = own })) ≡ false = all_lasts long ∙ sym two.made in
          let (n, given) = short_of power.steps (steps_of_work seen (record { recovery = first; arena = arena; own = own })) total_short in
          let all = went_around opened mid news power.steps left last first own (count_of arena) false one two in
          let all_n : Went opened news (Some (label_steps seen (record { recovery = first; arena = arena; own = own }) n)) last (first ++ own) false =
          subst (λ (f : Option ℕ). Went opened news (around (steps_of_all seen first) (count_of arena) f) last (first ++ own) false) given all in
          goes_cut (record { recovery = first; arena = arena; own = own }) None total_short
          (all_cut (record { recovery = first; arena = arena; own = own }) news n made given
          (all_n.makes.words ∙ ap (λ rs. words_after rs (first ++ own) (label_steps seen (record { recovery = first; arena = arena; own = own }) n)) rows_now)
          (λ rows left_of. all_n.cut (label_steps seen (record { recovery = first; arena = arena; own = own }) n) refl rows left_of)
          all.beside all.sizes s (at_begun news made s.rows s.contents_left at))

      -- power was cut in the format
      pub cut_within : (made : List Words) → lasts left (count_of arena) ≡ false → (s : SavesCut leaves objects power mid made outcome) → SavedAs leaves arena set words objects made left s.rows s.contents_left
          → Goes leaves set seen (record { recovery = first; arena = arena; own = own }) None power outcome
      cut_within made short s at =
          let total_short = short_format short in
          let (n, given) = short_of power.steps (steps_of_work seen (record { recovery = first; arena = arena; own = own })) total_short in
          let one_n : Went opened mid (Some n) left first true = subst (λ (f : Option ℕ). Went opened mid f left first true) given one in
          let k_is : label_steps seen (record { recovery = first; arena = arena; own = own }) n ≡ steps_of_all seen first =
          within (steps_of_all seen first) (count_of arena) n (sym one_n.made) (ap (λ (f : Option ℕ). lasts f (count_of arena)) (sym one_n.left_is) ∙ short) in
          goes_cut (record { recovery = first; arena = arena; own = own }) None total_short
          (all_cut (record { recovery = first; arena = arena; own = own }) mid n made given
          (words_between opened mid n left first one_n own ∙ ap (λ rs. words_after rs (first ++ own) (steps_of_all seen first)) rows_now ∙ ap (λ (k : ℕ). words_after (rows_in set) (first ++ own) k) (sym k_is))
          (λ rows left_of. subst (λ (k : ℕ). IsLeftBy seen (first ++ own) k (areas_shown rows)) (sym k_is) (left_between opened mid n left first one_n own rows left_of))
          one.beside one.sizes s (at_begun mid made s.rows s.contents_left at))

  -- the command was refused
  pub refused_after : (first : List Change) (mid : List Area) (left : Option ℕ) (f : OpRefused) → Went opened mid power.steps left first true → outcome ≡ refused_outcome (refusal_text f)
      → Goes leaves set seen (record { recovery = first; arena = None; own = [] }) (Some f) power outcome
  refused_after first mid left f one is_refused =
      let none : steps_of_all seen (first ++ []) + 0 ≡ steps_of_all seen first = add-zero (steps_of_all seen (first ++ [])) ∙ ap (λ (cs : List Change). steps_of_all seen cs) (append-nil first) in
      goes_whole (record { recovery = first; arena = None; own = [] }) (Some f) (ap (lasts power.steps) none ∙ sym one.made) is_refused

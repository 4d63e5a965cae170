use Rattle.std.proofs.Common.{◌≡◌, List, ℕ, [], sym, ap, ◌∙◌, subst}
use Rattle.atomic_table.specs.Table.{opening}
use Rattle.arena_open.specs.declared.opened.LaneState.{LaneState}
use Rattle.lane_table.specs.declared.table.Call.{Call}
use Rattle.lane_table.specs.declared.table.Key.{Key}
use Rattle.lane_table.specs.Begun.{row_of, IsOpenArena, IsBegun}
use Rattle.lane_table.specs.Law.{holds, first}
use Rattle.lane_table.proofs.Dealt.{are_free, are_own}
use Rattle.lane_table.proofs.Starts.{begins}
use Rattle.lane_table.proofs.opening.arena_of.Goals as goal

pub of_words-requires : goal.of_words-requires
of_words-requires c =
    let x = c.args.shape in
    let key : Key = record { shape = x; words = c.of.result; lanes = c.of-2.result } in
    let begun : IsBegun key =
    subst (λ (ls : List LaneState). IsOpenArena x key.words.value ls) (sym c.of-2.ensures) (subst (λ (ws : List ℕ). IsOpenArena x ws c.args.states.now) (sym c.of.ensures) c.requires) in
    let row : c.as_slice-2.result.now ≡ row_of x key.words.value = c.as_slice-2.ensures.value ∙ c.in_ok-first.ensures ∙ ap (row_of x) (c.as_slice.ensures ∙ sym c.of.ensures) in
    subst (λ (ws : List ℕ). holds {S = Call} key (opening ws [] (first key))) (sym row) (begins key begun Call)

pub returns-clause-own : goal.returns-clause-own
returns-clause-own c = are_own _ _ _ _ (ap (λ (k : Key). k.shape) c.in_ok-table.ensures.5) c.in_ok-lanes.ensures

pub returns-clause-free : goal.returns-clause-free
returns-clause-free c = are_free _ _ _ c.in_ok-lanes.ensures

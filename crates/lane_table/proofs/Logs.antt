-- A lane's log with one call more, and where on a commit's way its write joins the history.
use Rattle.std.proofs.Common.{◌≡◌, ℕ, ◌-◌, ◌<◌, ◌≤◌, zero, suc, List, [], ◌∷◌, ◌++◌, refl, sym, ap, ◌∙◌, subst, arith}
use Rattle.std.specs.Prelude.{Vec}
use Rattle.atomic_table.specs.Table.{Me}
use Rattle.arena_open.specs.declared.cell.CellKind.{CellKind}
use Rattle.arena_open.specs.declared.cell.CellKind.TheVariants as cell_kind
use Rattle.lane_core.specs.declared.history.Entry.{Entry}
use Rattle.lane_core.specs.declared.lane.Lane.{Lane}
use Rattle.lane_core.specs.Machine.{read, wrote}
use Rattle.lane_table.specs.declared.log.LoggedAct.TheVariants as logged
use Rattle.lane_table.specs.declared.log.LoggedCall.{LoggedCall}
use Rattle.lane_table.specs.declared.table.Call.{Call}
use Rattle.lane_table.specs.declared.table.View.{View}
use Rattle.lane_table.specs.Committed.{way}
use Rattle.lane_table.specs.Logs.{call_logged, IsLogOf}
use Rattle.lane_table.specs.Reads.{cell_of_kind}
use Rattle.lane_table.specs.Told.{locked, known, a_stored, a_kept, b_stored, b_kept}
use Rattle.lane_table.proofs.Gathers.{map_push}

-- the call of a read that found a cell of this kind, and that of a write
abbrev pub read_call : Lane → CellKind → LoggedCall
read_call p kind = record { tag = p.tag; sector = p.sector; act = logged.Read kind }

abbrev pub write_call : Lane → LoggedCall
write_call p = record { tag = p.tag; sector = p.sector; act = logged.Write }

told : (l : ℕ) (p : Lane) (kind : CellKind) (words : List ℕ) → read_call p kind ≡ call_logged (read l p (cell_of_kind kind words))
told l p cell_kind.Bytes words = refl
told l p cell_kind.Bad words = refl

module _ {Z : Type 0} (log log' : Vec LoggedCall Z) (history : List Entry) (l : ℕ) (p : Lane) (call : LoggedCall) (is : IsLogOf log history) (added : log'.items ≡ log.items ++ call ∷ []) where
  pushed : (e : Entry) → call ≡ call_logged e → IsLogOf log' (history ++ e ∷ [])
  pushed e same = added ∙ ap (λ c. log.items ++ c ∷ []) same ∙ ap (λ xs. xs ++ call_logged e ∷ []) is ∙ sym (map_push call_logged history e)

  pub read_added : (kind : CellKind) (words : List ℕ) → call ≡ read_call p kind → IsLogOf log' (history ++ read l p (cell_of_kind kind words) ∷ [])
  read_added kind words is_read = pushed (read l p (cell_of_kind kind words)) (is_read ∙ told l p kind words)

  pub write_added : call ≡ write_call p → IsLogOf log' (history ++ wrote l p ∷ [])
  write_added is_write = pushed (wrote l p) is_write

-- ---- a commit

-- the lane whose write joins
abbrev pub joining : {S : Type 0} → Call → ℕ → Me S View → Lane
joining t w me = (b_kept (b_stored (a_kept (a_stored (known w (locked t me)))))).0.lane

module _ {S : Type 0} (t : Call) (w : ℕ) (me : Me S View) where
  pub log_before : (k : ℕ) → k < 7 → (way t w k me).0.lane.log ≡ me.0.lane.log
  log_before zero lt = refl
  log_before (suc zero) lt = refl
  log_before (suc (suc zero)) lt = refl
  log_before (suc (suc (suc zero))) lt = refl
  log_before (suc (suc (suc (suc zero)))) lt = refl
  log_before (suc (suc (suc (suc (suc zero))))) lt = refl
  log_before (suc (suc (suc (suc (suc (suc zero)))))) lt = refl
  log_before (suc (suc (suc (suc (suc (suc (suc k))))))) lt = absurd (omega (arith, lt))

  log_on : (k : ℕ) → k < 2 → (way t w (suc (suc (suc (suc (suc (suc (suc k))))))) me).0.lane.log ≡ me.0.lane.log ++ wrote me.0.number (joining t w me) ∷ []
  log_on zero lt = refl
  log_on (suc zero) lt = refl
  log_on (suc (suc k)) lt = absurd (omega (arith, lt))

  pub log_after : (k : ℕ) → 7 ≤ k → k < 9 → (way t w k me).0.lane.log ≡ me.0.lane.log ++ wrote me.0.number (joining t w me) ∷ []
  log_after k ge lt =
      let on : suc (suc (suc (suc (suc (suc (suc (k - 7))))))) ≡ k = omega (arith, ge) in
      subst (λ n. (way t w n me).0.lane.log ≡ me.0.lane.log ++ wrote me.0.number (joining t w me) ∷ []) on (log_on (k - 7) (omega (arith, ge, lt)))

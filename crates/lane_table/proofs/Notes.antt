-- What a call leaves in the pass that its lane holds.
use Rattle.std.proofs.Common.{◌≡◌, ℕ, ◌⊎◌, inl, inr, zero, suc, List, map, refl, sym, ap, ◌∙◌, subst}
use Rattle.atomic_table.specs.Table.{Me}
use Rattle.arena_open.specs.declared.cell.CellKind.{CellKind}
use Rattle.lane_core.specs.declared.history.Act.TheVariants as act
use Rattle.lane_core.specs.declared.history.Entry.{Entry}
use Rattle.lane_core.specs.declared.lane.Lane.{Lane as Lane_now}
use Rattle.lane_core.specs.Machine.{read, wrote}
use Rattle.lane_table.specs.declared.table.Call.{Call}
use Rattle.lane_table.specs.declared.table.PassPart.{PassPart}
use Rattle.lane_table.specs.declared.table.View.{View}
use Rattle.lane_table.specs.Committed.{way}
use Rattle.lane_table.specs.Law.{noted}
use Rattle.lane_table.specs.Reads.{calling, cell_of_kind}
use Rattle.lane_table.proofs.Logs.{joining}

-- the write as it joins the history
joined_as : {S : Type 0} (t : Call) (w n : ℕ) (ws : List ℕ) (me : Me S View) → me.0.number ≡ n → me.0.lane.words ≡ ws
    → wrote me.0.number (joining t w me) ≡ record { lane = n; tag = t.tag; sector = t.sector; act = act.Write ws }
joined_as t w n ws me number words =
    ap (λ (n : ℕ). record { lane = n; tag = t.tag; sector = t.sector; act = act.Write me.0.lane.words }) number ∙ ap (λ ws. record { lane = n; tag = t.tag; sector = t.sector; act = act.Write ws }) words

module _ {S : Type 0} (t : Call) (w n : ℕ) (ws : List ℕ) (me : Me S View) (number : me.0.number ≡ n) (words : me.0.lane.words ≡ ws) where
  abbrev entry : Entry
  entry = record { lane = n; tag = t.tag; sector = t.sector; act = act.Write ws }

  with_entry : map (noted (wrote me.0.number (joining t w me))) me.0.held ≡ map (noted entry) me.0.held
  with_entry = ap (λ e. map (noted e) me.0.held) (joined_as t w n ws me number words)

  -- a commit that was made
  pub noted_whole : (me' : Me S View) → me' ≡ way t w 9 me → me'.0.held ≡ map (noted entry) me.0.held
  noted_whole me' is = ap (λ m. m.0.held) is ∙ with_entry

  held_on : (k : ℕ) → ((way t w k me).0.held ≡ me.0.held) ⊎ ((way t w k me).0.held ≡ map (noted entry) me.0.held)
  held_on zero = inl refl
  held_on (suc zero) = inl refl
  held_on (suc (suc zero)) = inl refl
  held_on (suc (suc (suc zero))) = inl refl
  held_on (suc (suc (suc (suc zero)))) = inl refl
  held_on (suc (suc (suc (suc (suc zero))))) = inl refl
  held_on (suc (suc (suc (suc (suc (suc zero)))))) = inl refl
  held_on (suc (suc (suc (suc (suc (suc (suc zero))))))) = inr with_entry
  held_on (suc (suc (suc (suc (suc (suc (suc (suc zero)))))))) = inr with_entry
  held_on (suc (suc (suc (suc (suc (suc (suc (suc (suc k))))))))) = inr with_entry

  -- a commit that was cut
  pub noted_part : (me' : Me S View) (k : ℕ) → me' ≡ way t w k me → (me'.0.held ≡ me.0.held) ⊎ (me'.0.held ≡ map (noted entry) me.0.held)
  noted_part me' k is = subst (λ (m : Me S View). (m.0.held ≡ me.0.held) ⊎ (m.0.held ≡ map (noted entry) me.0.held)) (sym is) (held_on k)

-- a read
pub noted_read : (t : Call) (n : ℕ) (p : Lane_now) (kind : CellKind) (new : List ℕ) (held : List PassPart) (number : ℕ) → n ≡ number
    → map (noted (read n (calling t p) (cell_of_kind kind new))) held ≡ map (noted (record { lane = number; tag = t.tag; sector = t.sector; act = act.Read (cell_of_kind kind new) })) held
noted_read t n p kind new held number e = ap (λ (n : ℕ). map (noted (record { lane = n; tag = t.tag; sector = t.sector; act = act.Read (cell_of_kind kind new) })) held) e

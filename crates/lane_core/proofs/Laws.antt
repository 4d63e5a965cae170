-- The laws in the form in which they are stated.
use Rattle.std.proofs.Common.{inl, inr, refl, sym, ap, ◌∙◌, arith}
use Rattle.lane_core.specs.Machine.{Scanning, Staging, Called, Reading}
use Rattle.lane_core.specs.Laws.{WriteBegins, CallsAreGivenUp, RttScan, DataStore, DataKeep, LockTake, MapLoad, FlogAStore, FlogAKeep, FlogBStore, FlogBKeep, MapStore, MapKeep, LockFree, ReadBegins, MapLook, RttSet, MapCheck, DataLoad, RttClear, OpenedIsSound, FormattedIsOpen, EveryRun, EveryCut, OneIsCurrent, UnloggedWritesAreLost, EachIsNamed, CutsReopen, EveryAccount}
use Rattle.lane_core.proofs.Put.{never}
use Rattle.lane_core.proofs.Past.{cell_in-zero, cell_in-bad}
use Rattle.lane_core.proofs.Own.{free_scanning, free_staging, free_called}
use Rattle.lane_core.proofs.Staging.{data_store_sound, data_keep_sound}
use Rattle.lane_core.proofs.Turns.{lock_take_sound, begin_write_sound, scan_again_sound, scan_on_sound, give_up_sound, begin_read_sound, look_sound, map_load_sound, lock_free_sound, rtt_set_sound, check_moved_sound, clear_moved_sound, data_load_sound, clear_done_sound}
use Rattle.lane_core.proofs.Logging.{log_a_store_sound, log_a_keep_sound, log_b_store_sound, log_b_keep_sound}
use Rattle.lane_core.proofs.Switching.{map_store_sound, map_keep_sound}
use Rattle.lane_core.proofs.Answering.{look_cell_sound, check_same_sound}
use Rattle.lane_core.proofs.Whole.{run_sound}
use Rattle.lane_core.proofs.Cutting.{one_side}
use Rattle.lane_core.proofs.Recovering.{recovers}
use Rattle.lane_core.proofs.Beginning.{opened_sound, every_cut, reopened}
use Rattle.lane_core.proofs.Formatting.{formatted_open}
use Rattle.lane_core.proofs.Counting.{each_named}
use Rattle.lane_core.proofs.Finishing.{account}

pub write_begins : WriteBegins
write_begins g o s l h ll e = begin_write_sound g o s l h ll e

pub calls_are_given_up : CallsAreGivenUp
calls_are_given_up = (
  λ g o s l h ll e. give_up_sound g o s l h ll (Scanning 0) (free_scanning 0) e refl,
  λ g o s l h ll e. give_up_sound g o s l h ll (Staging 0) (free_staging 0) e (omega arith),
  λ g o s l h ll e. give_up_sound g o s l h ll Called free_called e refl,
)

pub rtt_scan : RttScan
rtt_scan j = (λ g o s l h ll e. scan_again_sound g o s l h ll j e, λ g o s l h ll e ne. scan_on_sound g o s l h ll j e ne)

pub data_store : DataStore
data_store k w g o s l h ll e lt = data_store_sound g o s l k w h ll e lt

pub data_keep : DataKeep
data_keep k g o s l h ll e le = data_keep_sound g o s l k h ll e le

pub lock_take : LockTake
lock_take tag sector g o s l h ll e a = lock_take_sound g o s l h ll tag sector e a.0 a.1

pub map_load : MapLoad
map_load g o s l h ll e = map_load_sound g o s l h ll e

pub flog_a_store : FlogAStore
flog_a_store g o s l h ll e = log_a_store_sound g o s l h ll e

pub flog_a_keep : FlogAKeep
flog_a_keep g o s l h ll e = log_a_keep_sound g o s l h ll e

pub flog_b_store : FlogBStore
flog_b_store g o s l h ll e = log_b_store_sound g o s l h ll e

pub flog_b_keep : FlogBKeep
flog_b_keep g o s l h ll e = log_b_keep_sound g o s l h ll e

pub map_store : MapStore
map_store g o s l h ll e = map_store_sound g o s l h ll e

pub map_keep : MapKeep
map_keep g o s l h ll e = map_keep_sound g o s l h ll e

pub lock_free : LockFree
lock_free g o s l h ll e = lock_free_sound g o s l h ll e

pub read_begins : ReadBegins
read_begins tag sector g o s l h ll e ls = begin_read_sound g o s l h ll tag sector e ls

pub map_look : MapLook
map_look = (
  λ g o s l h ll e a. look_sound g o s l h ll e a,
  λ g o s l h ll e a. look_cell_sound g o s l h ll _ e (sym (cell_in-zero g.width s.seen.data_at _ (s.lanes l).sector a)),
  λ g o s l h ll e a. look_cell_sound g o s l h ll _ e (sym (cell_in-bad g.width s.seen.data_at _ (s.lanes l).sector a)),
)

pub rtt_set : RttSet
rtt_set g o s l h ll e = rtt_set_sound g o s l h ll e

pub map_check : MapCheck
map_check = (λ g o s l h ll e a. check_same_sound g o s l h ll e a, λ g o s l h ll e. check_moved_sound g o s l h ll e)

pub data_load : DataLoad
data_load k g o s l h ll e lt = data_load_sound g o s l h ll k e lt

pub rtt_clear : RttClear
rtt_clear = (λ g o s l h ll e. clear_moved_sound g o s l h ll e, λ width g o s l h ll e a. clear_done_sound g o s l h ll (e ∙ ap Reading a))

pub opened_is_sound : OpenedIsSound
opened_is_sound = opened_sound

pub formatted_is_open : FormattedIsOpen
formatted_is_open = formatted_open

pub every_run : EveryRun
every_run = run_sound

pub cuts_survive : EveryCut
cuts_survive = every_cut

pub one_is_current : OneIsCurrent
one_is_current = one_side

pub unlogged_writes_are_lost : UnloggedWritesAreLost
unlogged_writes_are_lost g o s left sides t h hl hs lt none =
    elim ((recovers g o s h left hl sides hs).contents t lt) [
      | inl same ↦ same
      | inr w ↦ never (sym (none w.0 w.1 w.3) ∙ w.2)
    ]

pub each_is_named : EachIsNamed
each_is_named = each_named

pub cuts_reopen : CutsReopen
cuts_reopen g o s left again sides h hl hs m =
    let r = reopened g o s left again sides h hl hs m.log_a m.log_b m.blocks m.map in
    record { open_again = r.0; sound = opened_sound g again sides r.0; contents = r.1 }

pub every_account : EveryAccount
every_account g o s h = account g o s h

use Rattle.std.proofs.Common.{slice_set, sym, subst, refl}
use Rattle.lane_core.specs.Begins.{write_begun}
use Rattle.lane_core.specs.Cores.{ShowsSound}
use Rattle.lane_core.specs.Showing.{Shown}
use Rattle.lane_core.specs.Machine.{begin_write}
use Rattle.lane_core.specs.Places.{geometry}
use Rattle.lane_core.proofs.Callings.{write_core, write_shown}
use Rattle.lane_core.proofs.Starting.{became, here, idle}
use Rattle.lane_core.proofs.machine.Core.start_write.Goals as goal

pub returns-clause-core : goal.returns-clause-core
returns-clause-core c = λ o core_is.
    let core = c.args.self.now in
    let mine = c.index_mut-mine.result.now in
    let value = c.index_mut-mine.ensures.value in
    let at = here core c.args.lane mine c.requires.lane value in (
      _,
      subst (λ q. ShowsSound core.shape core.row (slice_set core.lanes.items c.args.lane q) core.history o (begin_write (geometry core.shape) core_is.0 c.args.lane)) (sym c.set_write.ensures)
          (write_core core.shape core.row core.lanes.items core.history core.history o core_is.0 c.args.lane mine core_is.1 at (idle core c.args.lane mine c.requires.lane value) refl c.requires.room c.args.tag c.args.sector c.args.words c.requires.sector c.requires.words),
    )

pub returns-clause-begun : goal.returns-clause-begun
returns-clause-begun c =
    let core = c.args.self.now in
    let mine = c.index_mut-mine.result.now in
    let value = c.index_mut-mine.ensures.value in
    let at = here core c.args.lane mine c.requires.lane value in
    record {
      rest = record { shape = refl; info = refl; row = refl; entries = refl };
      lanes = became core c.args.lane mine c.requires.lane value (λ p. write_begun core.shape p c.args.tag c.args.sector c.args.words) _ c.set_write.ensures;
      line = λ t shown. subst (λ q. Shown core.shape core.row (slice_set core.lanes.items c.args.lane q) core.history.entries (begin_write (geometry core.shape) t c.args.lane)) (sym c.set_write.ensures)
          (write_shown core.shape core.row core.lanes.items core.history.entries t c.args.lane mine c.requires.core.1.1.shape shown at (idle core c.args.lane mine c.requires.lane value) c.args.tag c.args.sector c.args.words);
    }

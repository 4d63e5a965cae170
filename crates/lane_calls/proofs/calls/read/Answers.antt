use Rattle.std.proofs.Common.{◌≡◌, ◌∙◌, length, refl, arith, Some, subst}
use Rattle.arena_open.specs.declared.cell.CellKind.{CellKind}
use Rattle.lane_core.specs.declared.history.Act.TheVariants as act
use Rattle.session_parts.specs.Parts.{stand_at}
use Rattle.lane_pool.specs.declared.sets.Who.TheVariants as who
use Rattle.lane_table.specs.declared.table.Call.{Call}
use Rattle.lane_table.specs.Reads.{cell_of_kind}
use Rattle.lane_calls.specs.declared.calls.Heard.TheVariants as heard
use Rattle.lane_calls.specs.declared.session.Session.{Session}
use Rattle.lane_calls.specs.Calls.{CallGoes, MayRead, answered, one_at_least, none_at_least, tag_by, whichever}
use Rattle.lane_calls.specs.Lanes.{read_entry}
use Rattle.lane_calls.proofs.Called.{call_ask, call_may, call_sector, call_spare, call_words, called_adds, called_none, called_stays, know_next, may_begin_at, may_give_back, may_hand_stays, spent_of, told_off, told_spent}
use Rattle.lane_calls.proofs.Ends.{end_of}
use Rattle.lane_calls.proofs.Lanes.{idle_rests}
use Rattle.lane_calls.proofs.calls.read.Goals as goal

its_kind : {a b : CellKind} → heard.Got a ≡ heard.Got b → a ≡ b
its_kind e = cc

pub begin-requires : goal.begin-requires
begin-requires g c = record { may = may_begin_at c.args.sectors.now c.args.place (MayRead c.args.session.now.caller.call c.args.sector (length c.args.into.now)) c.args.session.now c.requires.may }

pub returns-in_default-clause-cut : goal.returns-in_default-clause-cut
returns-in_default-clause-cut g c = λ _ parts know.
    let session = c.args.session.now in
    let caller = c.begin.ensures.caller in
    called_none c.args.sectors.now c.args.place parts session c.begin.new.session know caller.2 caller.0 caller.1.0 caller.1.1 (c.in_default.ensures.refused refl) (whichever (λ m m'. m' ≡ m)) refl

pub read_until-requires-clause-arena : goal.read_until-requires-clause-arena
read_until-requires-clause-arena g c =
    let s = c.args.sectors.now in
    let session = c.args.session.now in
    let may = c.requires.may in
    let began = c.in-Some.ensures.began may.parts (know_next s session.number may.parts session may.know) in
    end_of s session.number may.parts c.args.place c.in-Some.on.kept c.in-Some.on.lane.kit c.begin.new.session began.on c.index-arena.result.now c.index-arena.ensures

pub read_until-requires-clause-sector : goal.read_until-requires-clause-sector
read_until-requires-clause-sector g c =
    let s = c.args.sectors.now in
    let session = c.args.session.now in
    let may = c.requires.may in
    let began = c.in-Some.ensures.began may.parts (know_next s session.number may.parts session may.know) in
    call_sector s c.args.place may.parts session c.begin.new.session c.in-Some.on.kept c.in-Some.on.lane.kit began c.index-arena.result.now c.index-arena.ensures c.args.sector may.may.sector_in

pub read_until-requires-clause-into : goal.read_until-requires-clause-into
read_until-requires-clause-into g c =
    let s = c.args.sectors.now in
    let session = c.args.session.now in
    let may = c.requires.may in
    let began = c.in-Some.ensures.began may.parts (know_next s session.number may.parts session may.know) in
    call_words s c.args.place may.parts session c.begin.new.session c.in-Some.on.kept c.in-Some.on.lane.kit began c.index-arena.result.now c.index-arena.ensures (length c.args.into.now) may.may.whole

pub read_until-requires-clause-spare : goal.read_until-requires-clause-spare
read_until-requires-clause-spare g c =
    let s = c.args.sectors.now in
    let session = c.args.session.now in
    let may = c.requires.may in
    let began = c.in-Some.ensures.began may.parts (know_next s session.number may.parts session may.know) in
    call_spare s c.args.place may.parts session c.begin.new.session c.in-Some.on.kept c.in-Some.on.lane.kit began

pub read_until-requires-clause-may : goal.read_until-requires-clause-may
read_until-requires-clause-may g c =
    let s = c.args.sectors.now in
    let session = c.args.session.now in
    let may = c.requires.may in
    let began = c.in-Some.ensures.began may.parts (know_next s session.number may.parts session may.know) in
    call_may s c.args.place may.parts session c.begin.new.session c.in-Some.on.kept c.in-Some.on.lane.kit began session.caller.call may.may.may

pub read_until-requires-clause-may_ask : goal.read_until-requires-clause-may_ask
read_until-requires-clause-may_ask g c =
    let s = c.args.sectors.now in
    let session = c.args.session.now in
    let may = c.requires.may in
    let began = c.in-Some.ensures.began may.parts (know_next s session.number may.parts session may.know) in
    call_ask s c.args.place may.parts session c.begin.new.session c.in-Some.on.kept c.in-Some.on.lane.kit began

pub give_back-requires : goal.give_back-requires
give_back-requires g c =
    let s = c.args.sectors.now in
    let session = c.args.session.now in
    let may = c.requires.may in
    let began = c.in-Some.ensures.began may.parts (know_next s session.number may.parts session may.know) in
    let call : Call = record { tag = tag_by c.args.session.now.number c.args.session.now.caller.call; sector = c.args.sector } in
    let session3 : Session = record (c.begin.new.session) { caller = record (c.begin.new.session.caller) { pool = c.read_until.new.pass } } in
    let d = c.in-Got.ensures.got c.in-Got.lane c.in-Got.kind refl in
    record { may = may_give_back s c.args.place may.parts session c.begin.new.session c.in-Some.on.kept c.in-Some.on.lane.kit began c.in-Got.lane.kit (idle_rests c.in-Some.on.lane) session3 refl refl refl c.read_until.ensures.pass.0 c.read_until.ensures.pass.1 c.read_until.ensures.may_ask.0.1 began.on.pool.told (d.3 ∙ began.on.seated.pool_is) refl _ d.2 (read_entry c.in-Some.on.lane.kit.number call (cell_of_kind c.in-Got.kind c.read_until.new.into)) d.0 d.1 }

pub hand_in-requires : goal.hand_in-requires
hand_in-requires g c =
    let s = c.args.sectors.now in
    let session = c.args.session.now in
    let may = c.requires.may in
    let began = c.in-Some.ensures.began may.parts (know_next s session.number may.parts session may.know) in
    let session3 : Session = record (c.begin.new.session) { caller = record (c.begin.new.session.caller) { pool = c.read_until.new.pass } } in
    let o = c.in-Off.ensures.off c.in-Off.lane c.in-Off.off refl in
    record { may = may_hand_stays s c.args.place may.parts session c.begin.new.session c.in-Some.on.kept c.in-Some.on.lane.kit began c.in-Off.lane.kit (idle_rests c.in-Some.on.lane) session3 refl refl refl c.read_until.ensures.pass.0 c.read_until.ensures.pass.1 c.read_until.ensures.may_ask.0.1 (Some c.in-Off.off) (o.2 began.on.pool began.on.seated.pool_is) _ o.1 o.0 }

pub hand_in-requires-in-Cut : goal.hand_in-requires-in-Cut
hand_in-requires-in-Cut g c =
    let s = c.args.sectors.now in
    let session = c.args.session.now in
    let may = c.requires.may in
    let began = c.in-Some.ensures.began may.parts (know_next s session.number may.parts session may.know) in
    let session3 : Session = record (c.begin.new.session) { caller = record (c.begin.new.session.caller) { pool = c.read_until.new.pass } } in
    let u = c.in-Cut.ensures.cut c.in-Cut.stopped refl in
    record { may = may_hand_stays s c.args.place may.parts session c.begin.new.session c.in-Some.on.kept c.in-Some.on.lane.kit began c.in-Cut.stopped.kit (idle_rests c.in-Some.on.lane) session3 refl refl refl c.read_until.ensures.pass.0 c.read_until.ensures.pass.1 c.read_until.ensures.may_ask.0.1 began.on.pool.told (u.3 ∙ began.on.seated.pool_is) _ u.1 u.0 }

pub returns-in-Got-clause-done : goal.returns-in-Got-clause-done
returns-in-Got-clause-done g c = λ kind is.
    subst (λ (z : CellKind). CallGoes c.args.sectors.now c.args.place one_at_least (whichever (λ m m'. m' ≡ answered (stand_at c.args.session.now.caller.call c.args.sector (act.Read (cell_of_kind z c.read_until.new.into))) m)) c.args.session.now c.give_back.new.session) (its_kind is) (λ parts know.
    let s = c.args.sectors.now in
    let session = c.args.session.now in
    let began = c.in-Some.ensures.began parts (know_next s session.number parts session know) in
    let call : Call = record { tag = tag_by c.args.session.now.number c.args.session.now.caller.call; sector = c.args.sector } in
    let session3 : Session = record (c.begin.new.session) { caller = record (c.begin.new.session.caller) { pool = c.read_until.new.pass } } in
    let d = c.in-Got.ensures.got c.in-Got.lane c.in-Got.kind refl in
    called_adds s c.args.place parts session c.begin.new.session c.in-Some.on.kept c.in-Some.on.lane.kit began c.in-Got.lane.kit (idle_rests c.in-Some.on.lane) session3 refl refl refl c.read_until.ensures.pass.0 c.read_until.ensures.pass.1 c.read_until.ensures.may_ask.0.1 began.on.pool.told (d.3 ∙ began.on.seated.pool_is) c.give_back.new.session c.give_back.ensures.left c.give_back.ensures.knows _ d.2 one_at_least (omega arith) (read_entry c.in-Some.on.lane.kit.number call (cell_of_kind c.in-Got.kind c.read_until.new.into)) d.0)

pub returns-in-Got-clause-spent : goal.returns-in-Got-clause-spent
returns-in-Got-clause-spent g c = λ _ _.
    let s = c.args.sectors.now in
    let session = c.args.session.now in
    let may = c.requires.may in
    let began = c.in-Some.ensures.began may.parts (know_next s session.number may.parts session may.know) in
    let session3 : Session = record (c.begin.new.session) { caller = record (c.begin.new.session.caller) { pool = c.read_until.new.pass } } in
    let d = c.in-Got.ensures.got c.in-Got.lane c.in-Got.kind refl in
    spent_of s c.args.place may.parts session c.begin.new.session session3 c.give_back.new.session c.in-Some.on.kept c.in-Some.on.lane.kit began d.3 c.give_back.ensures.spends

pub returns-in-Off-clause-cut : goal.returns-in-Off-clause-cut
returns-in-Off-clause-cut g c = λ _ parts know.
    let s = c.args.sectors.now in
    let session = c.args.session.now in
    let began = c.in-Some.ensures.began parts (know_next s session.number parts session know) in
    let session3 : Session = record (c.begin.new.session) { caller = record (c.begin.new.session.caller) { pool = c.read_until.new.pass } } in
    let o = c.in-Off.ensures.off c.in-Off.lane c.in-Off.off refl in
    called_stays s c.args.place parts session c.begin.new.session c.in-Some.on.kept c.in-Some.on.lane.kit began c.in-Off.lane.kit (idle_rests c.in-Some.on.lane) session3 refl refl refl c.read_until.ensures.pass.0 c.read_until.ensures.pass.1 c.read_until.ensures.may_ask.0.1 (Some c.in-Off.off) (o.2 began.on.pool began.on.seated.pool_is) c.hand_in.new.session c.hand_in.ensures.left c.hand_in.ensures.knows _ o.1 none_at_least (omega arith) (whichever (λ m m'. m' ≡ m)) refl o.0

pub returns-in-Off-clause-told : goal.returns-in-Off-clause-told
returns-in-Off-clause-told g c = λ _.
    let s = c.args.sectors.now in
    let session = c.args.session.now in
    let may = c.requires.may in
    let began = c.in-Some.ensures.began may.parts (know_next s session.number may.parts session may.know) in
    let session3 : Session = record (c.begin.new.session) { caller = record (c.begin.new.session.caller) { pool = c.read_until.new.pass } } in
    let o = c.in-Off.ensures.off c.in-Off.lane c.in-Off.off refl in
    told_off s c.args.place may.parts session c.begin.new.session c.in-Some.on.kept c.in-Some.on.lane.kit began session3 c.hand_in.new.session c.in-Off.off c.hand_in.ensures.pool c.in-Off.off (o.2 began.on.pool began.on.seated.pool_is)

pub returns-in-Cut-clause-cut : goal.returns-in-Cut-clause-cut
returns-in-Cut-clause-cut g c = λ _ parts know.
    let s = c.args.sectors.now in
    let session = c.args.session.now in
    let began = c.in-Some.ensures.began parts (know_next s session.number parts session know) in
    let session3 : Session = record (c.begin.new.session) { caller = record (c.begin.new.session.caller) { pool = c.read_until.new.pass } } in
    let u = c.in-Cut.ensures.cut c.in-Cut.stopped refl in
    called_stays s c.args.place parts session c.begin.new.session c.in-Some.on.kept c.in-Some.on.lane.kit began c.in-Cut.stopped.kit (idle_rests c.in-Some.on.lane) session3 refl refl refl c.read_until.ensures.pass.0 c.read_until.ensures.pass.1 c.read_until.ensures.may_ask.0.1 began.on.pool.told (u.3 ∙ began.on.seated.pool_is) c.hand_in-in-Cut.new.session c.hand_in-in-Cut.ensures.left c.hand_in-in-Cut.ensures.knows _ u.1 none_at_least (omega arith) (whichever (λ m m'. m' ≡ m)) refl u.0

pub returns-in-Cut-clause-told : goal.returns-in-Cut-clause-told
returns-in-Cut-clause-told g c = λ _.
    let s = c.args.sectors.now in
    let session = c.args.session.now in
    let may = c.requires.may in
    let began = c.in-Some.ensures.began may.parts (know_next s session.number may.parts session may.know) in
    let session3 : Session = record (c.begin.new.session) { caller = record (c.begin.new.session.caller) { pool = c.read_until.new.pass } } in
    let u = c.in-Cut.ensures.cut c.in-Cut.stopped refl in
    let caller = c.begin.ensures.caller in
    told_spent s c.args.place may.parts session c.begin.new.session c.in-Some.on.kept c.in-Some.on.lane.kit began session3 c.hand_in-in-Cut.new.session c.off_by-off.result c.hand_in-in-Cut.ensures.pool c.in-Cut.stopped.kit u.2 c.hand_in-in-Cut.ensures.left (c.off_by-off.ensures ∙ (λ i. record { who = who.Session (caller.0 i); steps = caller.3 i })) (u.3 ∙ began.on.seated.pool_is)

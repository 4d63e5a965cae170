use Rattle.std.proofs.Common.{◌≡◌, ◌∙◌, inl, length, refl, arith, Some}
use Rattle.lane_pool.specs.declared.sets.Who.TheVariants as who
use Rattle.lane_table.specs.declared.table.Call.{Call}
use Rattle.lane_table.specs.Kits.{kit_in}
use Rattle.lane_calls.specs.declared.session.Session.{Session}
use Rattle.lane_calls.specs.Calls.{IsStopped, MayWrite, write_at_least, none_at_least, tag_by, whichever}
use Rattle.lane_calls.specs.Lanes.{write_entry}
use Rattle.lane_calls.proofs.Called.{call_ask, call_may, call_sector, call_spare, call_steps, call_words, called_adds, called_cut, called_none, called_stays, know_next, may_begin_at, may_give_back, may_hand_cut, may_hand_stays, shape_here, spent_not_off, spent_of, told_off, told_spent}
use Rattle.lane_calls.proofs.Ends.{end_of}
use Rattle.lane_calls.proofs.Lanes.{idle_rests}
use Rattle.lane_calls.proofs.calls.write.Goals as goal

pub begin-requires : goal.begin-requires
begin-requires g c = record { may = may_begin_at c.args.sectors.now c.args.place (MayWrite c.args.session.now.caller.call c.args.sector c.args.words.now) c.args.session.now c.requires }

pub returns-in_default-clause-cut : goal.returns-in_default-clause-cut
returns-in_default-clause-cut g c = λ _ parts know.
    let session = c.args.session.now in
    let caller = c.begin.ensures.caller in
    called_none c.args.sectors.now c.args.place parts session c.begin.new.session know caller.2 caller.0 caller.1.0 caller.1.1 (c.in_default.ensures.refused refl) (IsStopped session.number session.caller.call c.args.sector c.args.words.now) (inl refl)

pub write_on_lane-requires-clause-arena : goal.write_on_lane-requires-clause-arena
write_on_lane-requires-clause-arena g c = λ κs lives.
    let s = c.args.sectors.now in
    let session = c.args.session.now in
    let may = c.requires in
    let began = c.in-Some.ensures.began may.parts (know_next s session.number may.parts session may.know) in
    end_of s session.number may.parts c.args.place c.in-Some.on.kept c.in-Some.on.lane.kit c.begin.new.session began.on c.index-arena.result.now c.index-arena.ensures

pub write_on_lane-requires-clause-sector : goal.write_on_lane-requires-clause-sector
write_on_lane-requires-clause-sector g c = λ κs lives.
    let s = c.args.sectors.now in
    let session = c.args.session.now in
    let may = c.requires in
    let began = c.in-Some.ensures.began may.parts (know_next s session.number may.parts session may.know) in
    call_sector s c.args.place may.parts session c.begin.new.session c.in-Some.on.kept c.in-Some.on.lane.kit began c.index-arena.result.now c.index-arena.ensures c.args.sector may.may.sector_in

pub write_on_lane-requires-clause-words : goal.write_on_lane-requires-clause-words
write_on_lane-requires-clause-words g c = λ κs lives.
    let s = c.args.sectors.now in
    let session = c.args.session.now in
    let may = c.requires in
    let began = c.in-Some.ensures.began may.parts (know_next s session.number may.parts session may.know) in
    call_words s c.args.place may.parts session c.begin.new.session c.in-Some.on.kept c.in-Some.on.lane.kit began c.index-arena.result.now c.index-arena.ensures (length c.args.words.now) may.may.whole

pub write_on_lane-requires-clause-spare : goal.write_on_lane-requires-clause-spare
write_on_lane-requires-clause-spare g c = λ κs lives.
    let s = c.args.sectors.now in
    let session = c.args.session.now in
    let may = c.requires in
    let began = c.in-Some.ensures.began may.parts (know_next s session.number may.parts session may.know) in
    call_spare s c.args.place may.parts session c.begin.new.session c.in-Some.on.kept c.in-Some.on.lane.kit began

pub write_on_lane-requires-clause-may : goal.write_on_lane-requires-clause-may
write_on_lane-requires-clause-may g c = λ κs lives.
    let s = c.args.sectors.now in
    let session = c.args.session.now in
    let may = c.requires in
    let began = c.in-Some.ensures.began may.parts (know_next s session.number may.parts session may.know) in
    call_may s c.args.place may.parts session c.begin.new.session c.in-Some.on.kept c.in-Some.on.lane.kit began session.caller.call may.may.may

pub write_on_lane-requires-clause-may_ask : goal.write_on_lane-requires-clause-may_ask
write_on_lane-requires-clause-may_ask g c = λ κs lives.
    let s = c.args.sectors.now in
    let session = c.args.session.now in
    let may = c.requires in
    let began = c.in-Some.ensures.began may.parts (know_next s session.number may.parts session may.know) in
    call_ask s c.args.place may.parts session c.begin.new.session c.in-Some.on.kept c.in-Some.on.lane.kit began

pub give_back-requires : goal.give_back-requires
give_back-requires g c =
    let s = c.args.sectors.now in
    let session = c.args.session.now in
    let may = c.requires in
    let began = c.in-Some.ensures.began may.parts (know_next s session.number may.parts session may.know) in
    let call : Call = record { tag = tag_by c.args.session.now.number c.args.session.now.caller.call; sector = c.args.sector } in
    let session3 : Session = record (c.begin.new.session) { caller = record (c.begin.new.session.caller) { pool = c.write_on_lane.new.pass } } in
    let d = c.in-Done.ensures.done c.in-Done.lane refl in
    record { may = may_give_back s c.args.place may.parts session c.begin.new.session c.in-Some.on.kept c.in-Some.on.lane.kit began c.in-Done.lane.kit (idle_rests c.in-Some.on.lane) session3 refl refl refl c.write_on_lane.ensures.pass.0 c.write_on_lane.ensures.pass.1 c.write_on_lane.ensures.may_ask.0.1 began.on.pool.told (d.3 ∙ began.on.seated.pool_is) refl _ d.2 (write_entry c.in-Some.on.lane.kit.number call c.args.words.now) d.0 d.1 }

pub hand_in-requires : goal.hand_in-requires
hand_in-requires g c =
    let s = c.args.sectors.now in
    let session = c.args.session.now in
    let may = c.requires in
    let began = c.in-Some.ensures.began may.parts (know_next s session.number may.parts session may.know) in
    let session3 : Session = record (c.begin.new.session) { caller = record (c.begin.new.session.caller) { pool = c.write_on_lane.new.pass } } in
    let o = c.in-Off.ensures.off c.in-Off.end c.in-Off.off refl in
    record { may = may_hand_stays s c.args.place may.parts session c.begin.new.session c.in-Some.on.kept c.in-Some.on.lane.kit began (kit_in c.in-Off.end) (idle_rests c.in-Some.on.lane) session3 refl refl refl c.write_on_lane.ensures.pass.0 c.write_on_lane.ensures.pass.1 c.write_on_lane.ensures.may_ask.0.1 (Some c.in-Off.off) (o.2 began.on.pool began.on.seated.pool_is) _ o.1 o.0 }

pub hand_in-requires-in-Cut : goal.hand_in-requires-in-Cut
hand_in-requires-in-Cut g c =
    let s = c.args.sectors.now in
    let session = c.args.session.now in
    let may = c.requires in
    let began = c.in-Some.ensures.began may.parts (know_next s session.number may.parts session may.know) in
    let call : Call = record { tag = tag_by c.args.session.now.number c.args.session.now.caller.call; sector = c.args.sector } in
    let session3 : Session = record (c.begin.new.session) { caller = record (c.begin.new.session.caller) { pool = c.write_on_lane.new.pass } } in
    let u = c.in-Cut.ensures.cut c.in-Cut.end refl in
    record { may = may_hand_cut s c.args.place may.parts session c.begin.new.session c.in-Some.on.kept c.in-Some.on.lane.kit began (kit_in c.in-Cut.end) (idle_rests c.in-Some.on.lane) session3 refl refl refl c.write_on_lane.ensures.pass.0 c.write_on_lane.ensures.pass.1 c.write_on_lane.ensures.may_ask.0.1 began.on.pool.told (u.3 ∙ began.on.seated.pool_is) _ u.1 c.index-arena.result.now.shape call c.args.words.now refl u.0 }

pub returns-in-Done-clause-done : goal.returns-in-Done-clause-done
returns-in-Done-clause-done g c = λ _ parts know.
    let s = c.args.sectors.now in
    let session = c.args.session.now in
    let began = c.in-Some.ensures.began parts (know_next s session.number parts session know) in
    let call : Call = record { tag = tag_by c.args.session.now.number c.args.session.now.caller.call; sector = c.args.sector } in
    let session3 : Session = record (c.begin.new.session) { caller = record (c.begin.new.session.caller) { pool = c.write_on_lane.new.pass } } in
    let d = c.in-Done.ensures.done c.in-Done.lane refl in
    called_adds s c.args.place parts session c.begin.new.session c.in-Some.on.kept c.in-Some.on.lane.kit began c.in-Done.lane.kit (idle_rests c.in-Some.on.lane) session3 refl refl refl c.write_on_lane.ensures.pass.0 c.write_on_lane.ensures.pass.1 c.write_on_lane.ensures.may_ask.0.1 began.on.pool.told (d.3 ∙ began.on.seated.pool_is) c.give_back.new.session c.give_back.ensures.left c.give_back.ensures.knows _ d.2 write_at_least (call_steps s c.args.place parts session c.begin.new.session c.in-Some.on.kept c.in-Some.on.lane.kit began c.index-arena.result.now c.index-arena.ensures) (write_entry c.in-Some.on.lane.kit.number call c.args.words.now) d.0

pub returns-in-Done-clause-spent : goal.returns-in-Done-clause-spent
returns-in-Done-clause-spent g c = λ _.
    let s = c.args.sectors.now in
    let session = c.args.session.now in
    let may = c.requires in
    let began = c.in-Some.ensures.began may.parts (know_next s session.number may.parts session may.know) in
    let session3 : Session = record (c.begin.new.session) { caller = record (c.begin.new.session.caller) { pool = c.write_on_lane.new.pass } } in
    let d = c.in-Done.ensures.done c.in-Done.lane refl in
    spent_of s c.args.place may.parts session c.begin.new.session session3 c.give_back.new.session c.in-Some.on.kept c.in-Some.on.lane.kit began d.3 c.give_back.ensures.spends

pub returns-in-Off-clause-cut : goal.returns-in-Off-clause-cut
returns-in-Off-clause-cut g c = λ _ parts know.
    let s = c.args.sectors.now in
    let session = c.args.session.now in
    let began = c.in-Some.ensures.began parts (know_next s session.number parts session know) in
    let session3 : Session = record (c.begin.new.session) { caller = record (c.begin.new.session.caller) { pool = c.write_on_lane.new.pass } } in
    let o = c.in-Off.ensures.off c.in-Off.end c.in-Off.off refl in
    called_stays s c.args.place parts session c.begin.new.session c.in-Some.on.kept c.in-Some.on.lane.kit began (kit_in c.in-Off.end) (idle_rests c.in-Some.on.lane) session3 refl refl refl c.write_on_lane.ensures.pass.0 c.write_on_lane.ensures.pass.1 c.write_on_lane.ensures.may_ask.0.1 (Some c.in-Off.off) (o.2 began.on.pool began.on.seated.pool_is) c.hand_in.new.session c.hand_in.ensures.left c.hand_in.ensures.knows _ o.1 none_at_least (omega arith) (IsStopped session.number session.caller.call c.args.sector c.args.words.now) (inl refl) o.0

pub returns-in-Off-clause-told : goal.returns-in-Off-clause-told
returns-in-Off-clause-told g c = λ _.
    let s = c.args.sectors.now in
    let session = c.args.session.now in
    let may = c.requires in
    let began = c.in-Some.ensures.began may.parts (know_next s session.number may.parts session may.know) in
    let session3 : Session = record (c.begin.new.session) { caller = record (c.begin.new.session.caller) { pool = c.write_on_lane.new.pass } } in
    let o = c.in-Off.ensures.off c.in-Off.end c.in-Off.off refl in
    told_off s c.args.place may.parts session c.begin.new.session c.in-Some.on.kept c.in-Some.on.lane.kit began session3 c.hand_in.new.session c.in-Off.off c.hand_in.ensures.pool c.in-Off.off (o.2 began.on.pool began.on.seated.pool_is)

pub returns-in-Cut-clause-cut : goal.returns-in-Cut-clause-cut
returns-in-Cut-clause-cut g c = λ _ parts know.
    let s = c.args.sectors.now in
    let session = c.args.session.now in
    let began = c.in-Some.ensures.began parts (know_next s session.number parts session know) in
    let call : Call = record { tag = tag_by c.args.session.now.number c.args.session.now.caller.call; sector = c.args.sector } in
    let session3 : Session = record (c.begin.new.session) { caller = record (c.begin.new.session.caller) { pool = c.write_on_lane.new.pass } } in
    let u = c.in-Cut.ensures.cut c.in-Cut.end refl in
    called_cut s c.args.place parts session c.begin.new.session c.in-Some.on.kept c.in-Some.on.lane.kit began (kit_in c.in-Cut.end) (idle_rests c.in-Some.on.lane) session3 refl refl refl c.write_on_lane.ensures.pass.0 c.write_on_lane.ensures.pass.1 c.write_on_lane.ensures.may_ask.0.1 began.on.pool.told (u.3 ∙ began.on.seated.pool_is) c.hand_in-in-Cut.new.session c.hand_in-in-Cut.ensures.left c.hand_in-in-Cut.ensures.knows _ u.1 none_at_least (omega arith) c.index-arena.result.now.shape (shape_here s c.args.place parts session c.begin.new.session c.in-Some.on.kept c.in-Some.on.lane.kit began c.index-arena.result.now c.index-arena.ensures) call c.args.words.now refl u.0

pub returns-in-Cut-clause-told : goal.returns-in-Cut-clause-told
returns-in-Cut-clause-told g c = λ _.
    let s = c.args.sectors.now in
    let session = c.args.session.now in
    let may = c.requires in
    let began = c.in-Some.ensures.began may.parts (know_next s session.number may.parts session may.know) in
    let session3 : Session = record (c.begin.new.session) { caller = record (c.begin.new.session.caller) { pool = c.write_on_lane.new.pass } } in
    let u = c.in-Cut.ensures.cut c.in-Cut.end refl in
    let caller = c.begin.ensures.caller in
    told_spent s c.args.place may.parts session c.begin.new.session c.in-Some.on.kept c.in-Some.on.lane.kit began session3 c.hand_in-in-Cut.new.session c.off_by-off.result c.hand_in-in-Cut.ensures.pool (kit_in c.in-Cut.end) u.2 c.hand_in-in-Cut.ensures.left (c.off_by-off.ensures ∙ (λ i. record { who = who.Session (caller.0 i); steps = caller.3 i })) (u.3 ∙ began.on.seated.pool_is)

pub returns-in_default-clause-off : goal.returns-in_default-clause-off
returns-in_default-clause-off g c = λ _ _ parts know.
    let session = c.args.session.now in
    let caller = c.begin.ensures.caller in
    called_none c.args.sectors.now c.args.place parts session c.begin.new.session know caller.2 caller.0 caller.1.0 caller.1.1 (c.in_default.ensures.refused refl) (whichever (λ m m'. m' ≡ m)) refl

pub returns-in-Off-clause-off : goal.returns-in-Off-clause-off
returns-in-Off-clause-off g c = λ _ _ parts know.
    let s = c.args.sectors.now in
    let session = c.args.session.now in
    let began = c.in-Some.ensures.began parts (know_next s session.number parts session know) in
    let session3 : Session = record (c.begin.new.session) { caller = record (c.begin.new.session.caller) { pool = c.write_on_lane.new.pass } } in
    let o = c.in-Off.ensures.off c.in-Off.end c.in-Off.off refl in
    called_stays s c.args.place parts session c.begin.new.session c.in-Some.on.kept c.in-Some.on.lane.kit began (kit_in c.in-Off.end) (idle_rests c.in-Some.on.lane) session3 refl refl refl c.write_on_lane.ensures.pass.0 c.write_on_lane.ensures.pass.1 c.write_on_lane.ensures.may_ask.0.1 (Some c.in-Off.off) (o.2 began.on.pool began.on.seated.pool_is) c.hand_in.new.session c.hand_in.ensures.left c.hand_in.ensures.knows _ o.1 none_at_least (omega arith) (whichever (λ m m'. m' ≡ m)) refl o.0

pub returns-in-Cut-clause-off : goal.returns-in-Cut-clause-off
returns-in-Cut-clause-off g c = λ _ same parts know.
    let s = c.args.sectors.now in
    let session = c.args.session.now in
    let began = c.in-Some.ensures.began parts (know_next s session.number parts session know) in
    let session3 : Session = record (c.begin.new.session) { caller = record (c.begin.new.session.caller) { pool = c.write_on_lane.new.pass } } in
    let u = c.in-Cut.ensures.cut c.in-Cut.end refl in
    let caller = c.begin.ensures.caller in
    absurd (spent_not_off s c.args.place parts session c.begin.new.session c.in-Some.on.kept c.in-Some.on.lane.kit began session3 c.hand_in-in-Cut.new.session c.off_by-off.result c.hand_in-in-Cut.ensures.pool know (c.off_by-off.ensures ∙ (λ i. record { who = who.Session (caller.0 i); steps = caller.3 i })) (u.3 ∙ began.on.seated.pool_is) same)

-- The stretch that was judged lengthens the front, and the one behind it was read behind that.
use Rattle.std.proofs.Common.{◌≤◌, ◌+◌, length, arith}
use Rattle.std.proofs.lemmas.Result.{IfOk-at_ok}
use Rattle.mtn_check_hands.specs.Hands.{AreRead}
use Rattle.mtn_check_walk.specs.Judging.{IsJudged}
use Rattle.mtn_check_walk.specs.Stretches.{AreSound}
use Rattle.mtn_check_walk.proofs.Walks.{told_ok, told_read, told_shown, told_walked}
use Rattle.mtn_check_walk.proofs.walk.look_ahead.Goals as goal

pub judge_and_read-judged-requires-clause-none : goal.judge_and_read-judged-requires-clause-none
judge_and_read-judged-requires-clause-none g c κs within = λ p hand has. let lt = c.requires.laid_out.none p hand has in let len = c.len.ensures in omega (arith, lt, len)

pub returns-clause-walked : goal.returns-clause-walked
returns-clause-walked g c =
    let f = g.I.Ident.meaning c.args.ident.now in
    let xs = c.args.walk.stretch.positions.items in
    let jobs = c.args.walk.stretch.jobs.items in
    let judged : IsJudged f c.args.walk.stretch c.in_ok-judged.judged = IfOk-at_ok (IsJudged f c.args.walk.stretch) {r = c.judge_and_read-judged.result.0} c.in_ok-judged.was c.judge_and_read-judged.ensures.judged in
    let sound : AreSound f xs jobs c.in_ok-judged.judged.sound = judged.sound in
    let within : c.in_ok-judged.judged.sound ≤ length jobs = judged.within in
    told_walked f c.args.count c.args.walk c.in_ok-judged.judged.sound (g.K.Keeper.contents c.args.keeper.now) (g.K.Keeper.contents c.judge_and_read-judged.new.keeper) c.judge_and_read-judged.ensures.next.stays.same sound
    (let end = c.requires.laid_out.within in omega (arith, end, within)) within c.requires.read

pub returns-clause-read : goal.returns-clause-read
returns-clause-read g c =
    let f = g.I.Ident.meaning c.args.ident.now in
    let xs = c.args.walk.stretch.positions.items in
    let jobs = c.args.walk.stretch.jobs.items in
    let judged : IsJudged f c.args.walk.stretch c.in_ok-judged.judged = IfOk-at_ok (IsJudged f c.args.walk.stretch) {r = c.judge_and_read-judged.result.0} c.in_ok-judged.was c.judge_and_read-judged.ensures.judged in
    let sound : AreSound f xs jobs c.in_ok-judged.judged.sound = judged.sound in
    let within : c.in_ok-judged.judged.sound ≤ length jobs = judged.within in
    let behind = c.args.walk.at + c.len.result in
    let hands = c.judge_and_read-judged.new.hands in
    told_read f c.args.count c.args.walk (record { at = behind; stretch = c.in_ok-next.field-0; hands = hands }) c.in_ok-judged.judged.sound (g.K.Keeper.contents c.args.keeper.now) (g.K.Keeper.contents c.judge_and_read-judged.new.keeper)
    c.judge_and_read-judged.ensures.next.stays.same sound (let end = c.requires.laid_out.within in omega (arith, end, within)) within (let len = c.len.ensures in omega (arith, len)) c.requires.read
    (told_ok (g.K.Keeper.contents c.judge_and_read-judged.new.keeper) (λ k stretch. AreRead k behind c.args.walk.hands stretch.positions.items stretch.jobs.items hands) c.judge_and_read-judged.result.1 c.in_ok-next.field-0 c.in_ok-next.was
    c.judge_and_read-judged.ensures.next.read)

pub returns-clause-shown : goal.returns-clause-shown
returns-clause-shown g c =
    let f = g.I.Ident.meaning c.args.ident.now in
    let judged : IsJudged f c.args.walk.stretch c.in_ok-judged.judged = IfOk-at_ok (IsJudged f c.args.walk.stretch) {r = c.judge_and_read-judged.result.0} c.in_ok-judged.was c.judge_and_read-judged.ensures.judged in
    told_shown f c.args.count c.args.walk c.in_ok-judged.judged.sound (g.K.Keeper.contents c.args.keeper.now) (g.K.Keeper.contents c.judge_and_read-judged.new.keeper) c.in_ok-judged.judged.damage
    c.judge_and_read-judged.ensures.next.stays.same judged.sound c.requires.laid_out.within judged.within c.requires.read judged.shown

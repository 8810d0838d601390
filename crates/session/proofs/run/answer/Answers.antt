-- A command ends by its page, by want of memory or by a file that failed.
use Rattle.session.proofs.Ended.{ended, ended_as}
use Rattle.session.proofs.run.answer.Goals as goal

pub returns-in-Prove : goal.returns-in-Prove
returns-in-Prove g c = λ words. rw c.in-Prove.is (c.prove_page-page.ensures.others, (g.E.Write.contents c.prove_page-page.new.err, c.prove_page-page.ensures.followed, ended c.prove_page-page.result c.prove_page-page.ensures.page c.prove_page-page.ensures.stop c.finish.ensures))

pub returns-in-Check : goal.returns-in-Check
returns-in-Check g c = λ words. rw c.in-Check.is (c.check_page-page.ensures.same, ended c.check_page-page.result c.check_page-page.ensures.page c.check_page-page.ensures.stop c.finish-in-Check.ensures)

pub returns-in-Replay : goal.returns-in-Replay
returns-in-Replay g c = λ words. rw c.in-Replay.is (c.replay_page-page.ensures.same, ended c.replay_page-page.result c.replay_page-page.ensures.page c.replay_page-page.ensures.stop c.finish-in-Replay.ensures)

pub returns-in-Encode : goal.returns-in-Encode
returns-in-Encode g c = λ words. rw c.in-Encode.is (c.encode_page-page.ensures.same, ended c.encode_page-page.result c.encode_page-page.ensures.page c.encode_page-page.ensures.stop c.finish-in-Encode.ensures)

pub returns-in-Export : goal.returns-in-Export
returns-in-Export g c = λ words. rw c.in-Export.is (c.export_page-page.ensures.others, ended c.export_page-page.result c.export_page-page.ensures.page c.export_page-page.ensures.stop c.finish-in-Export.ensures)

pub returns-in-Trim : goal.returns-in-Trim
returns-in-Trim g c = λ words. rw c.in-Trim.is (c.trim_page-page.ensures.others, ended c.trim_page-page.result c.trim_page-page.ensures.page c.trim_page-page.ensures.stop c.finish-in-Trim.ensures)

pub returns-in-Shrink : goal.returns-in-Shrink
returns-in-Shrink g c = λ words. rw c.in-Shrink.is (c.shrink_page-page.ensures.others, ended c.shrink_page-page.result c.shrink_page-page.ensures.page c.shrink_page-page.ensures.stop c.finish-in-Shrink.ensures)

pub returns-in-Decide : goal.returns-in-Decide
returns-in-Decide g c = λ words. rw c.in-Decide.is (c.decide_page-page.ensures.others, (g.E.Write.contents c.decide_page-page.new.err, c.decide_page-page.ensures.followed, ended c.decide_page-page.result c.decide_page-page.ensures.page c.decide_page-page.ensures.stop c.finish-in-Decide.ensures))

pub returns-in-DecidePhases : goal.returns-in-DecidePhases
returns-in-DecidePhases g c = λ words. rw c.in-DecidePhases.is (c.decide_phases_page-page.ensures.others, (g.E.Write.contents c.decide_phases_page-page.new.err, c.decide_phases_page-page.ensures.followed, ended c.decide_phases_page-page.result c.decide_phases_page-page.ensures.page c.decide_phases_page-page.ensures.stop c.finish-in-DecidePhases.ensures))

pub returns-in-Phases : goal.returns-in-Phases
returns-in-Phases g c = λ words. rw c.in-Phases.is (c.cut_page-page.ensures.within, ended c.cut_page-page.result c.cut_page-page.ensures.page c.cut_page-page.ensures.stop c.finish-in-Phases.ensures)

pub returns-in-Join : goal.returns-in-Join
returns-in-Join g c = λ words. rw c.in-Join.is (c.join_page-page.ensures.others, ended c.join_page-page.result c.join_page-page.ensures.page c.join_page-page.ensures.stop c.finish-in-Join.ensures)

pub returns-in-Unroll : goal.returns-in-Unroll
returns-in-Unroll g c = λ words. rw c.in-Unroll.is (c.unroll.ensures words c.args.is_terminal)

pub returns-in-DecideUnrolled : goal.returns-in-DecideUnrolled
returns-in-DecideUnrolled g c = λ words. rw c.in-DecideUnrolled.is (c.decide_unrolled.ensures words c.args.is_terminal)

pub returns-in-DecideEach : goal.returns-in-DecideEach
returns-in-DecideEach g c = λ words. rw c.in-DecideEach.is (c.decide_each.ensures words c.args.is_terminal)

pub returns-in-ExplainEach : goal.returns-in-ExplainEach
returns-in-ExplainEach g c = λ words. rw c.in-ExplainEach.is (c.explain_each.ensures words c.args.is_terminal)

pub returns-in-ExplainUnrolled : goal.returns-in-ExplainUnrolled
returns-in-ExplainUnrolled g c = λ words. rw c.in-ExplainUnrolled.is (c.explain_unrolled.ensures words c.args.is_terminal)

pub returns-in-Explain : goal.returns-in-Explain
returns-in-Explain g c = λ words. rw c.in-Explain.is (
  c.mapped_page-page.ensures.same,
  ended_as c.mapped_page-page.result c.explain_want.ensures c.is_object.ensures
      c.mapped_page-page.ensures.page c.mapped_page-page.ensures.stop c.finish-in-Explain.ensures,
)

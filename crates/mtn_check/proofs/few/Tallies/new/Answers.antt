use Rattle.mtn_check.proofs.few.Tallies.new.Goals as goal

pub returns : goal.returns
returns c count k = record { texts = c.new.ensures 3 count k; log = c.new-2.ensures 4 count k; rosters = c.new-3.ensures 5 count k }

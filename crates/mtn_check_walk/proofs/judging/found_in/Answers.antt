use Rattle.mtn_check_walk.proofs.judging.found_in.Goals as goal

pub returns-clause-sound : goal.returns-clause-sound
returns-clause-sound c = λ f answered. c.count_sound-sound.ensures.sound f c.args.positions.now c.args.jobs.now c.requires.answers answered

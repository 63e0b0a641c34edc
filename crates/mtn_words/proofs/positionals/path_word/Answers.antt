use Rattle.std.proofs.Common.{◌∙◌, subst}
use Rattle.mtn_base.specs.Paths.{IsPathFault}
use Rattle.mtn_base.specs.declared.path.PathError.TheVariants.{Empty, Dots, TooLong, BadByte}
use Rattle.mtn_words.proofs.PathWords.{path_read, path_refused}
use Rattle.mtn_words.proofs.positionals.path_word.Goals as goal

pub returns-in-Ok : goal.returns-in-Ok
returns-in-Ok c = path_read c.args.word.now c.in-Ok.path (c.in-Ok.ensures.ok ∙ c.as_slice.ensures) c.in-Ok.ensures.lawful

pub returns-in-Err-Empty : goal.returns-in-Err-Empty
returns-in-Err-Empty c = path_refused Empty c.args.word.now tt (subst (IsPathFault Empty) c.as_slice.ensures (rw c.in-Err-Empty.field-0-is at c.in-Err-Empty.ensures.err))

pub returns-in-Err-Dots : goal.returns-in-Err-Dots
returns-in-Err-Dots c = path_refused Dots c.args.word.now tt (subst (IsPathFault Dots) c.as_slice.ensures (rw c.in-Err-Dots.field-0-is at c.in-Err-Dots.ensures.err))

pub returns-in-Err-TooLong : goal.returns-in-Err-TooLong
returns-in-Err-TooLong c = path_refused TooLong c.args.word.now tt (subst (IsPathFault TooLong) c.as_slice.ensures (rw c.in-Err-TooLong.field-0-is at c.in-Err-TooLong.ensures.err))

pub returns-in-Err-BadByte : goal.returns-in-Err-BadByte
returns-in-Err-BadByte c = path_refused BadByte c.args.word.now tt (subst (IsPathFault BadByte) c.as_slice.ensures (rw c.in-Err-BadByte.field-0-is at c.in-Err-BadByte.ensures.err))

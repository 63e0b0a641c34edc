use Rattle.mtn_base.specs.declared.path.PathError.TheVariants.{Empty, Dots, TooLong, BadByte}
use Rattle.mtn_changes.proofs.PathText.{refused_text}
use Rattle.mtn_changes.proofs.lines.path_in.Goals as goal

pub returns-in-Err-Empty : goal.returns-in-Err-Empty
returns-in-Err-Empty c = refused_text Empty c.args.text.now tt (rw c.in-Err-Empty.field-0-is at c.in-Err-Empty.ensures.err)

pub returns-in-Err-Dots : goal.returns-in-Err-Dots
returns-in-Err-Dots c = refused_text Dots c.args.text.now tt (rw c.in-Err-Dots.field-0-is at c.in-Err-Dots.ensures.err)

pub returns-in-Err-TooLong : goal.returns-in-Err-TooLong
returns-in-Err-TooLong c = refused_text TooLong c.args.text.now tt (rw c.in-Err-TooLong.field-0-is at c.in-Err-TooLong.ensures.err)

pub returns-in-Err-BadByte : goal.returns-in-Err-BadByte
returns-in-Err-BadByte c = refused_text BadByte c.args.text.now tt (rw c.in-Err-BadByte.field-0-is at c.in-Err-BadByte.ensures.err)

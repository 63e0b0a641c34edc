-- What `read` replies.
use Rattle.std.specs.Prelude.{◌≡◌, false, Result, Ok, Err}
use Rattle.mtn_commands.specs.declared.error.CommandError.{CommandError}
use Rattle.mtn_commands.specs.declared.error.CommandError.TheVariants.{Refused, Store}
use Rattle.mtn_frame.specs.declared.works.Reply.{Reply}
use Rattle.mtn_history.specs.declared.errors.StoreError.TheVariants.{NoMemory}
use Rattle.mtn_imports.specs.Imports.{Kept, kept_text}
use Rattle.mtn_reading.specs.declared.error.ReadError.{ReadError}
use Rattle.mtn_reading.specs.declared.error.ReadError.TheVariants as read

-- the counts as text, or want of memory
abbrev pub ToldCounts : Kept → Result Reply CommandError → Type 0
ToldCounts new (Ok reply) = reply ≡ record { conflicts = false; text = kept_text new }
ToldCounts new (Err e) = e ≡ Store NoMemory

-- the same error for a command
abbrev pub command_error : ReadError → CommandError
command_error (read.Refused refusal) = Refused refusal
command_error (read.Store e) = Store e

-- What is told of a malformed script.
use Rattle.std.specs.Prelude.{ℕ, List, ◌++◌, codes, decimal}
use Rattle.script.specs.declared.reason.Reason.{Reason}
use Rattle.script.specs.declared.reason.Reason.TheVariants as reason
use Rattle.script.specs.declared.reason.ScriptError.{ScriptError}
use Rattle.script.specs.declared.reason.ScriptError.TheVariants as error

-- a reason in plain words
abbrev pub reason_text : Reason → List ℕ
reason_text reason.UnknownCommand = codes "unknown command"
reason_text reason.TooFewWords = codes "too few words"
reason_text reason.TooManyWords = codes "too many words"
reason_text reason.SpaceTooMany = codes "a space too many"
reason_text reason.NotNumber = codes "not a number"
reason_text reason.NumberTooLarge = codes "number too large"
reason_text reason.NotTear = codes "neither all nor nothing"
reason_text reason.DeviceMissing = codes "no device"
reason_text reason.DeviceNotFirst = codes "a command before the device"
reason_text reason.DeviceRepeated = codes "a second device"

-- the number of the line, and the reason
abbrev pub error_text : ScriptError → List ℕ
error_text (error.Malformed n r) = codes "line " ++ (decimal n ++ (codes ": " ++ reason_text r))
error_text error.OutOfMemory = codes "out of memory"

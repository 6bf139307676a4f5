-- The numbers of the answers: 0 is done, any other number names the question that was answered no.
use Rattle.std.specs.Prelude.{ℕ, Result, Ok, Err}
use Rattle.limits.specs.declared.answer.Refusal.{Refusal}
use Rattle.limits.specs.declared.answer.Refusal.TheVariants.{BadWindow, BadTimes, BadWait, Unsound, OddEvents, PartialRow, ShortAnswers, UnknownKind, BadArgument, WindowFull, NoRowLeft, IllegalCell, DataTableFull, NotOutstanding, AlreadyAcknowledged, TimerRunning, NoMessage, ReplyTableFull, SpanNotOutstanding, NothingReady, RecordFull, UnknownFrame, BadFrameLength, BadFrameWindow, BadFrameNumber, BadFrameLife, BadFrameSpan, ShortBuffer, BadInputLength, BadRecordLength, NoSuchPage, ShortPageBuffer, BadFile, SavedTwice, NoSuchLeg}

abbrev pub refusal_number : Refusal → ℕ
refusal_number BadWindow = 1
refusal_number BadTimes = 2
refusal_number BadWait = 3
refusal_number Unsound = 4
refusal_number OddEvents = 5
refusal_number PartialRow = 6
refusal_number ShortAnswers = 7
refusal_number UnknownKind = 8
refusal_number BadArgument = 9
refusal_number WindowFull = 10
refusal_number NoRowLeft = 11
refusal_number IllegalCell = 12
refusal_number DataTableFull = 13
refusal_number NotOutstanding = 14
refusal_number AlreadyAcknowledged = 15
refusal_number TimerRunning = 16
refusal_number NoMessage = 17
refusal_number ReplyTableFull = 18
refusal_number SpanNotOutstanding = 19
refusal_number NothingReady = 20
refusal_number RecordFull = 21
refusal_number UnknownFrame = 22
refusal_number BadFrameLength = 23
refusal_number BadFrameWindow = 24
refusal_number BadFrameNumber = 25
refusal_number BadFrameLife = 26
refusal_number BadFrameSpan = 27
refusal_number ShortBuffer = 28
refusal_number BadInputLength = 29
refusal_number BadRecordLength = 30
refusal_number NoSuchPage = 31
refusal_number ShortPageBuffer = 32
refusal_number BadFile = 33
refusal_number SavedTwice = 34
refusal_number NoSuchLeg = 35

abbrev pub number_of : {X : Type 0} → Result X Refusal → ℕ
number_of (Ok x) = 0
number_of (Err refusal) = refusal_number refusal

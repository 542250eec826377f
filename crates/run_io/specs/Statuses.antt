-- How a run ended: the number of each status, where its bytes went, and the lines that are always the same.
use Rattle.std.specs.Prelude.{ℕ, List, Option, None, Some, ⊤}
use Rattle.run_io.specs.FaultLine.{words_line, read_line, write_line, memory_line}
use Rattle.run_io.specs.declared.status.Status.{Status}
use Rattle.run_io.specs.declared.status.Status.TheVariants.{Solved, NoMacro, BadWords, BadSettings, ReadFault, WriteFault, WantMemory, BadPrefix, NotReached, BadMacro, StoppedMacro, NotBest, BadCertificate}

-- the exit status of the program
abbrev pub code_of : Status → ℕ
code_of Solved = 0
code_of NoMacro = 1
code_of BadWords = 2
code_of BadSettings = 3
code_of ReadFault = 4
code_of WriteFault = 5
code_of WantMemory = 6
code_of BadPrefix = 7
code_of NotReached = 8
code_of BadMacro = 9
code_of StoppedMacro = 10
code_of NotBest = 11
code_of BadCertificate = 12

-- a result: its text was written to `out`
abbrev pub IsResult : Status → Type 0
IsResult Solved = ⊤
IsResult NoMacro = ⊤
IsResult NotReached = ⊤
IsResult StoppedMacro = ⊤
IsResult NotBest = ⊤
IsResult _ = ⊥

-- a refusal of what came in: its line was told on `err`
abbrev pub IsRefusal : Status → Type 0
IsRefusal BadSettings = ⊤
IsRefusal BadPrefix = ⊤
IsRefusal BadMacro = ⊤
IsRefusal BadCertificate = ⊤
IsRefusal _ = ⊥

-- the run ended before the first byte was written
abbrev pub IsBeforeWriting : Status → Type 0
IsBeforeWriting Solved = ⊥
IsBeforeWriting NoMacro = ⊥
IsBeforeWriting WriteFault = ⊥
IsBeforeWriting NotReached = ⊥
IsBeforeWriting StoppedMacro = ⊥
IsBeforeWriting NotBest = ⊥
IsBeforeWriting _ = ⊤

-- the line of a status that always tells the same one
abbrev pub fault_line : Status → Option (List ℕ)
fault_line BadWords = Some words_line
fault_line ReadFault = Some read_line
fault_line WriteFault = Some write_line
fault_line WantMemory = Some memory_line
fault_line _ = None

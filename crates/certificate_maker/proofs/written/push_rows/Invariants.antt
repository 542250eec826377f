use Rattle.std.proofs.Common.{◌≡◌, ◌++◌, true, drop, string_bytes}
use Rattle.pareto_front.specs.Lists.{items_of}
use Rattle.certificate_maker.specs.Written.{marks_text}
use Rattle.certificate_maker.proofs.written.push_rows.Given as goal

abbrev pub invariant-loop-mark : goal.invariant-loop-mark
invariant-loop-mark l =
    string_bytes l.text ++ marks_text (items_of l.buckets) l.first (drop l.mark-index l.marks) ≡ string_bytes l.initial.text ++ marks_text (items_of l.buckets) true l.marks

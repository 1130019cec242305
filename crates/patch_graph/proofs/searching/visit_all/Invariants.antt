use Rattle.std.proofs.Common.{ℕ}
use Rattle.patch_graph.specs.Search.{AreNext, IsLook}
use Rattle.patch_graph.proofs.searching.visit_all.Given as goal

abbrev pub invariant-loop-no : goal.invariant-loop-no
invariant-loop-no g l = (from stop key : ℕ) → AreNext l.register.slots l.register.numbers l.way key l.next
    → IsLook l.register.slots l.register.numbers l.way from stop key l.next l.initial.marks l.initial.queue l.head l.tail 0
    → IsLook l.register.slots l.register.numbers l.way from stop key l.next l.marks l.queue l.head l.end l.no-index

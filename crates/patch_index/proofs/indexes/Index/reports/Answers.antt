use Rattle.std.proofs.Common.{◌≡◌, ◌+◌, ◌<◌, ◌∙◌, ◌++◌, ◌∷◌, [], length, map, take, sym, ap, arith}
use Rattle.std.proofs.lemmas.List.{map-append, append-nil}
use Rattle.std.specs.Prelude.{Vec}
use Rattle.patch_index.specs.declared.reports.EntryReport.{EntryReport}
use Rattle.patch_index.specs.Reporting.{reported, of_slots}
use Rattle.patch_index.specs.Index.{told}
use Rattle.patch_index.proofs.Reported.{more_slots}
use Rattle.patch_index.proofs.indexes.Index.reports.Goals.{in-Some+in_ok-push, in_default}
use Rattle.patch_index.proofs.indexes.Index.reports.Goals as goal

pub loop-slot-preserved : goal.loop-slot-preserved
loop-slot-preserved g c =
    let slots = c.self.inside.slots.items in
    let slot = c.loop-slot.slot in
    let item = c.index.result.now in
    let within : slot < length slots = omega (arith, c.loop-slot-test.true, c.len-slot-end.ensures) in
    let before = of_slots (map told (take slot slots)) in
    let more : of_slots (map told (take (slot + 1) slots)) ≡ before ++ of_slots (told item ∷ []) =
    more_slots told slots slot item within ∙ ap (λ o. before ++ of_slots (told o ∷ [])) (sym c.index.ensures) in
    elim c.match-index.branch [
      | in-Some+in_ok-push w ↦
          ap (λ (v : Vec EntryReport g.row.B.Denot). map reported v.items) w.entries-is ∙ ap (map reported) w.in_ok-push.ensures.items
          ∙ map-append reported c.loop-slot.entries.items (w.report.result ∷ [])
          ∙ ap (λ es. es ++ reported w.report.result ∷ []) c.loop-slot.invariant ∙ ap (λ r. before ++ r ∷ []) w.report.ensures
          ∙ sym (more ∙ ap (λ o. before ++ of_slots (told o ∷ [])) w.in-Some.is)
      | in_default w ↦
          ap (λ (v : Vec EntryReport g.row.B.Denot). map reported v.items) w.entries-is ∙ c.loop-slot.invariant
          ∙ sym (more ∙ ap (λ o. before ++ of_slots (told o ∷ [])) w.in_default.is ∙ append-nil before)
    ]

-- What is copied of a report.
use Rattle.std.proofs.Common.{◌≡◌, ℕ, pos, ◌∙◌, List, length, map, sym, ap, subst}
use Rattle.std.specs.Prelude.{Option, Some, None, MatchOption, option_map}
use Rattle.std.proofs.lemmas.List.{length-map}
use Rattle.std.proofs.lemmas.List.FromFn.{length-map-range_with_len}
use Rattle.patch_history.specs.History.{History, standing_of}
use Rattle.patch_index.specs.Index.{key_of}
use Rattle.patch_index.specs.Reporting.{reported}
use Rattle.patch_index.specs.declared.reports.EntryReport.{EntryReport}
use Rattle.patch_store.specs.Checking.{entries_of, extent_report, extent_reports, ListsMap}
use Rattle.patch_store.specs.declared.reports.ExtentReport.{ExtentReport}
use Rattle.patch_handles.specs.declared.answers.Answer.{Answer}
use Rattle.patch_handles.specs.Answering.{number_of}
use Rattle.patch_handles.specs.Copying.{copied, answer_copying}
use Rattle.patch_c.specs.Reading.{entry_told, counts_told}

pub counted_so : (h : History) (entries : List EntryReport) (extents : List ExtentReport) (keys count : ℕ) → ListsMap h (map reported entries)
    → extents ≡ extent_reports (standing_of h).shelf → keys ≡ length entries → count ≡ length extents → (pos 0, keys, count) ≡ counts_told h
counted_so h entries extents keys count lists are keys_are count_is =
    let shelf = (standing_of h).shelf in
    let e : keys ≡ length (entries_of h) = keys_are ∙ sym (length-map entries reported) ∙ ap length lists.listed in
    let x : count ≡ shelf.extents.geometry.extents =
    count_is ∙ ap length are ∙ length-map-range_with_len (extent_report shelf) 0 shelf.extents.geometry.extents in
    λ i. (pos 0, e i, x i)

-- of the entry that was found
pub told_so : (found : Option (List ℕ × ℕ)) (entry : EntryReport) (key into : List ℕ) (len value_len : ℕ) (answer : Answer) (into_now : List ℕ) (len_now : ℕ)
    → Some (reported entry) ≡ found → key ≡ key_of entry.key → answer ≡ answer_copying key into → into_now ≡ copied key into → len_now ≡ length key
    → (number_of answer, into_now, len_now, entry.length) ≡ entry_told found into len value_len
told_so found entry key into len value_len answer into_now len_now got key_is answer_is into_is len_is =
    let a : answer ≡ answer_copying (key_of entry.key) into = answer_is ∙ ap (λ k. answer_copying k into) key_is in
    let b : into_now ≡ copied (key_of entry.key) into = into_is ∙ ap (λ k. copied k into) key_is in
    let l : len_now ≡ length (key_of entry.key) = len_is ∙ ap length key_is in
    subst (λ o. (number_of answer, into_now, len_now, entry.length) ≡ entry_told o into len value_len) got
    (λ i. (number_of (a i), b i, l i, entry.length))

-- what is found is reported
pub reported_so : (r : Option EntryReport) (None_ : Type 0) (Is : List ℕ × ℕ → Type 0) → MatchOption r None_ (λ it. Is (reported it))
    → MatchOption (option_map reported r) None_ Is
reported_so None None_ Is said = said
reported_so (Some entry) None_ Is said = said

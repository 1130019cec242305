-- What the answers of looks and of sends are, by the block's patches.
use Rattle.std.proofs.Common.{◌≡◌, ℕ, ◌<◌, ◌∙◌, inl, inr, not, Option, Some, None, Result, Ok, Err, List, [], ◌∷◌, length, map, filter, refl, sym, ap, arith}
use Rattle.std.specs.Prelude.{nat_le}
use Rattle.std.proofs.lemmas.Bool.{cases_Bool}
use Rattle.std.proofs.lemmas.Bool.Decides.{nat_tests}
use Rattle.patch_model.specs.declared.refusals.Refusal.{Refusal}
use Rattle.patch_model.specs.Step as step
use Rattle.patch_model.specs.Pile.{pile}
use Rattle.patch_model.specs.Entry.{Entry, is_among}
use Rattle.patch_model.specs.Execution.{Execution, extended}
use Rattle.patch_model.specs.State.{entries_of, numbers_of}
use Rattle.patch_model.specs.Ready.{ready}
use Rattle.patch_model.specs.Orderly.{IsOrderly, IsNumbered, IsOrderlyBlock}
use Rattle.patch_model.specs.History.{History, history_of, without, cached, image, IsPermitted}
use Rattle.patch_model.specs.Refusing.{why_not_shown, why_not_sent}
use Rattle.patch_view.specs.History.{IsCoherent}
use Rattle.patch_view.specs.Laws.{TakenWithoutCause, PutBackWithoutCause, NumberNamesClass}
use Rattle.patch_cache.specs.Asks.{View, Sent, Seen, IsAnswer, seen, unless}
use Rattle.patch_cache.specs.Promise.{ImagesSent, class_move, taken_by}
use Rattle.patch_cache.specs.Viewing.{with_moves, bytes_at}
use Rattle.patch_cache.specs.declared.asks.Move.{Move as PatchMove}
use Rattle.patch_cache.proofs.Accepting.{accepted}
use Rattle.patch_cache.proofs.Permitting.{none_taken}

-- an answer that isn't refused is what it would be
shown : (run : Execution) (block start len : ℕ) (left right : List ℕ) (o : Option Refusal) (r : Result (List ℕ) Refusal)
    → Seen left right ≡ unless o (seen run block start len r)
    → (names : List ℕ) × (o ≡ None) × (r ≡ Ok names) × (left ≡ bytes_at (without (history_of run block) names) start len)
    × (right ≡ bytes_at (cached (history_of run block)) start len)
shown run block start len left right None (Ok names) e = (names, refl, refl, cc, cc)
shown run block start len left right None (Err cause) e = absurd (cc)
shown run block start len left right (Some cause) r e = absurd (cc)

known : (blocks block start len : ℕ) → why_not_shown blocks block start len ≡ None → block < blocks
known blocks block start len e = elim (cases_Bool (nat_le blocks block)) [
  | inl t ↦ let some : Some _ ≡ None = rw (t, why_not_shown) at e in absurd (cc)
  | inr f ↦ grind (arith, nat_tests, f)
]

-- with nothing taken all patches stay
all_stay : (entries : List Entry) → filter (λ e. not (is_among [] e.class)) entries ≡ entries
all_stay [] = refl
all_stay (e ∷ entries) = ap (λ es. e ∷ es) (all_stay entries)

pub looked : (run : Execution) (block start len : ℕ) (moves : List PatchMove) (left right : List ℕ)
    → IsNumbered (entries_of run) → (block < length run.first → IsOrderlyBlock (history_of run block) block) → IsOrderly (entries_of run)
    → ((h : History) (b : ℕ) → IsOrderlyBlock h b → IsCoherent h) → TakenWithoutCause → PutBackWithoutCause → NumberNamesClass
    → IsAnswer run (View block moves start len) (Seen left right)
    → let h = history_of run block in
    let order = map (class_move h) moves in
    IsPermitted h [] order
    × (left ≡ bytes_at (pile h.first (map (λ e. e.patch) (filter (λ e. not (is_among (taken_by order) e.class)) h.entries))) start len)
    × (right ≡ bytes_at (pile h.first (map (λ e. e.patch) h.entries)) start len)
looked run block start len moves left right numbered whole all coherent takes backs named is =
    let h = history_of run block in
    let told = shown run block start len left right (why_not_shown (length run.first) block start len) (with_moves run block [] moves) is in
    let b = whole (known (length run.first) block start len told.1) in
    let order = accepted run block all numbered b (coherent h block b) takes backs named [] told.0 moves (none_taken h) told.2 in (
      order.0,
      told.3 ∙ ap (λ names. bytes_at (without h names) start len) (sym order.1),
      told.4 ∙ ap (λ es. bytes_at (pile h.first (map (λ e. e.patch) es)) start len) (all_stay h.entries),
    )

sent : (bytes : List ℕ) (block of_block : ℕ) (numbers ready_ones : List ℕ) (the_image : List ℕ) (o : Option Refusal)
    → Sent block numbers bytes ≡ unless o (Sent of_block ready_ones the_image) → bytes ≡ the_image
sent bytes block of_block numbers ready_ones the_image None e = cc
sent bytes block of_block numbers ready_ones the_image (Some cause) e = absurd (cc)

pub sent_image : ImagesSent
sent_image run block told numbers bytes is =
    sent bytes told block numbers (numbers_of (ready (entries_of run) block)) (image (history_of (extended run (step.Send block)) block)) (why_not_sent run block) is

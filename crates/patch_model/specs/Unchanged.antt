-- What a step leaves of each patch as it is: the lemmas of every crate's proofs.
use Rattle.std.proofs.Common.{◌≡◌, ℕ, inl, inr, List, refl}
use Rattle.std.specs.Prelude.{◌==◌, ◌&&◌, ◌||◌}
use Rattle.std.proofs.lemmas.Bool.{cases_Bool}
use Rattle.patch_model.specs.Entry.{Entry, is_flight}
use Rattle.patch_model.specs.Ready.{has}
use Rattle.patch_model.specs.State.{joined, sent, landed}

pub patch-joined : (a b : ℕ) (e : Entry) → (joined a b e).patch ≡ e.patch
patch-joined a b e = elim (cases_Bool (e.class == a || e.class == b)) [ inl u ↦ rw u refl | inr u ↦ rw u refl ]

pub mark-joined : (a b : ℕ) (e : Entry) → (joined a b e).mark ≡ e.mark
mark-joined a b e = elim (cases_Bool (e.class == a || e.class == b)) [ inl u ↦ rw u refl | inr u ↦ rw u refl ]

pub hard-joined : (a b : ℕ) (e : Entry) → (joined a b e).hard ≡ e.hard
hard-joined a b e = elim (cases_Bool (e.class == a || e.class == b)) [ inl u ↦ rw u refl | inr u ↦ rw u refl ]

pub patch-sent : (set : List Entry) (e : Entry) → (sent set e).patch ≡ e.patch
patch-sent set e = elim (cases_Bool (has set e)) [ inl u ↦ rw u refl | inr u ↦ rw u refl ]

pub class-sent : (set : List Entry) (e : Entry) → (sent set e).class ≡ e.class
class-sent set e = elim (cases_Bool (has set e)) [ inl u ↦ rw u refl | inr u ↦ rw u refl ]

pub hard-sent : (set : List Entry) (e : Entry) → (sent set e).hard ≡ e.hard
hard-sent set e = elim (cases_Bool (has set e)) [ inl u ↦ rw u refl | inr u ↦ rw u refl ]

pub patch-landed : (block : ℕ) (e : Entry) → (landed block e).patch ≡ e.patch
patch-landed block e = elim (cases_Bool (is_flight e && e.patch.block == block)) [ inl u ↦ rw u refl | inr u ↦ rw u refl ]

pub class-landed : (block : ℕ) (e : Entry) → (landed block e).class ≡ e.class
class-landed block e = elim (cases_Bool (is_flight e && e.patch.block == block)) [ inl u ↦ rw u refl | inr u ↦ rw u refl ]

pub hard-landed : (block : ℕ) (e : Entry) → (landed block e).hard ≡ e.hard
hard-landed block e = elim (cases_Bool (is_flight e && e.patch.block == block)) [ inl u ↦ rw u refl | inr u ↦ rw u refl ]

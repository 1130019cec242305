-- Records that name what others name.
use Rattle.std.proofs.Common.{◌≡◌, ℕ, ◌<◌, ◌∙◌, length, sym, ap}
use Rattle.patch_model.specs.Entry.{is_among}
use Rattle.patch_model.specs.History.{History}
use Rattle.patch_view.specs.History.{class_names}
use Rattle.patch_records.specs.Records.{Class}
use Rattle.patch_stacks.specs.State.{Block, class_at}
use Rattle.patch_view.specs.Meaning.{NamesLive}

-- a record like that at some place
abbrev pub IsLikeOne : Block → Class → Type 0
IsLikeOne b c = (k : ℕ) × (k < length b.classes) × (c.name ≡ (class_at b k).name) × (c.members ≡ (class_at b k).members) × (c.after ≡ (class_at b k).after)

-- records like those that there were
pub like_named : (old new : Block) (h now : History) → ((i : ℕ) → i < length new.classes → IsLikeOne old (class_at new i))
    → ((c n : ℕ) → class_names now c n ≡ class_names h c n) → NamesLive old h → NamesLive new now
like_named old new h now like same named i j n h_i h_j on goes =
    let p = like i h_i in
    let q = like j h_j in
    ap (λ us. is_among us n) p.4 ∙ named p.0 q.0 n p.1 q.1 (ap (λ ms. is_among ms n) (sym q.3) ∙ on)
    (ap (λ (c : ℕ). class_names h c n) (sym p.2) ∙ sym (same (class_at new i).name n) ∙ goes)

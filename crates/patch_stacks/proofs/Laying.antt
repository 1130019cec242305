-- A block on which a patch is laid keeps what is right for its bytes and its records.
use Rattle.std.proofs.Common.{◌≡◌, ◌≤◌, ◌+◌, ◌∙◌, ℕ, List, [], ◌∷◌, ◌++◌, length, Bool, true, false, not, refl, sym, ap, subst, Option}
use Rattle.std.specs.Prelude.{◌==◌}
use Rattle.patch_stacks.specs.declared.places.Places.{Places}
use Rattle.patch_stacks.specs.declared.members.Members.{Members}
use Rattle.patch_records.specs.Records.{Class, unlaid_class}
use Rattle.patch_stacks.specs.State.{Block, with_laid, TakenWithin, FlyingWithin, KnownApart}
use Rattle.patch_records.specs.Exchanges.{covering, laid_over}
use Rattle.patch_stacks.specs.Members.{with_member}
use Rattle.patch_images.specs.Images.{Image, KnownImage, KnownGap, StaysIf}
use Rattle.patch_stacks.proofs.Within.{pushed_within}
use Rattle.patch_stacks.proofs.Apart.{laid_apart}
use Rattle.patch_images.proofs.Baring.{put_over_image}
use Rattle.patch_images.proofs.Gapping.{laid_gap}
use Rattle.patch_records.proofs.Bytes.{length-laid_over}
use Rattle.patch_stacks.proofs.Outcomes.{takeable-soft}

-- what a block keeps beside its bytes and its records, where it is right for them
abbrev pub IsKept : List ℕ → List Class → Places → Members → Places → Option Image → Type 0
IsKept bytes cs taken members flying image = (length bytes ≡ 4096) × TakenWithin taken cs × KnownApart members cs
    × FlyingWithin flying cs × KnownImage image cs bytes × KnownGap image cs

-- what stays twice stays
pub stays_both : (stays : Bool) (old mid new : Option Image) → StaysIf true old mid → StaysIf stays mid new → StaysIf stays old new
stays_both stays old mid new stay next m is on = ((next m is on).0, (stay m (next m is on).1 on).1)

-- of a new class u, which is c once it is laid on the bytes b
module _ (b now : List ℕ) (cs all : List Class) (number start : ℕ) (bytes names : List ℕ) (hard : Bool) (u c : Class) (is : u ≡ unlaid_class number start bytes names hard)
    (covers : c ≡ covering u b bytes) (pushed : all ≡ cs ++ c ∷ []) (laid : now ≡ laid_over u.start bytes b) where
  -- the block is what a lay makes of it
  pub laid_block : (was : Block) → (let before : Block = record { bytes = b; classes = cs } in before) ≡ was
      → (let block : Block = record { bytes = now; classes = all } in block) ≡ with_laid was number start bytes names hard
  laid_block was seen =
      ap (λ (bs : List ℕ). let block : Block = record { bytes = bs; classes = all } in block) laid
      ∙ ap (λ (ks : List Class). let block : Block = record { bytes = laid_over u.start bytes b; classes = ks } in block) (pushed ∙ ap (λ (k : Class). cs ++ k ∷ []) covers)
      ∙ ap (λ (k : Class). let block : Block = record { bytes = laid_over k.start bytes b; classes = cs ++ covering k b bytes ∷ [] } in block) is
      ∙ ap (λ (block : Block). with_laid block number start bytes names hard) seen

  -- and what it keeps is right
  pub laid_kept : (taken flying : Places) (m m' : Members) (image image' : Option Image)
      → start + length bytes ≤ 4096
      → m' ≡ with_member m u.name (length cs == 0) → StaysIf (not u.hard) image image'
      → IsKept b cs taken m flying image → IsKept now all taken m' flying image'
  laid_kept taken flying m m' image image' fits next stays kept =
      let made : c ≡ covering (unlaid_class number start bytes names hard) b bytes = covers ∙ ap (λ (k : Class). covering k b bytes) is in
      let off : c.taken ≡ false = ap (λ (k : Class). k.taken) made in
      let grounded : c.flying ≡ false = ap (λ (k : Class). k.flying) made in
      let name : c.name ≡ u.name = ap (λ (k : Class). k.name) covers in
      let one : c.members ≡ u.name ∷ [] = ap (λ (k : Class). k.members) made ∙ ap (λ (k : Class). k.name ∷ []) (sym is) in
      let within : start + length bytes ≤ length b = subst (λ (n : ℕ). start + length bytes ≤ n) (sym kept.0) fits in
      let lies : now ≡ laid_over start bytes b = laid ∙ ap (λ (k : Class). laid_over k.start bytes b) is in
      let soft = takeable-soft c hard grounded off (ap (λ (k : Class). k.hard) made) in
      let keeps : StaysIf (not hard) image image' = subst (λ (k : Class). StaysIf (not k.hard) image image') is stays in (
        ap length lies ∙ length-laid_over start bytes b within ∙ kept.0,
        rw pushed (pushed_within (λ (k : Class). k.taken) refl cs c taken off kept.1),
        rw (next, pushed) (laid_apart cs c m u.name (length cs == 0) one name refl kept.2),
        rw pushed (pushed_within (λ (k : Class). k.flying) refl cs c flying grounded kept.3),
        rw (pushed, lies) (put_over_image image image' cs c b bytes start hard within (ap (λ (k : Class). k.start) made) (ap (λ (k : Class). k.saved) made) soft keeps kept.4),
        rw pushed (laid_gap image image' cs c (λ m is on. (refl, (keeps m is on).1)) kept.5),
      )

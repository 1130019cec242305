-- An ask has one answer.
use Rattle.std.proofs.Common.{◌≡◌, ℕ, ◌∙◌, ◌≤◌, None, List, sym, ap, arith}
use Rattle.std.specs.Prelude.{◌↔◌}
use Rattle.patch_model.specs.declared.refusals.Refusal.{Refusal}
use Rattle.patch_model.specs.declared.refusals.RefusalKind.TheVariants as kind
use Rattle.patch_model.specs.Entry.{Entry}
use Rattle.patch_model.specs.Execution.{Execution}
use Rattle.patch_model.specs.State.{entries_of}
use Rattle.patch_model.specs.Legal.{IsLegalMerge}
use Rattle.patch_model.specs.Refusing.{with_number, why_no_pair, IsBetween}
use Rattle.patch_cache.specs.Refusals.{IsWhyNotMerged, sooner, between}
use Rattle.patch_cache.specs.Asks.{Ask, Create, Merge, Send, Complete, View, Answer, Made, Merged, Sent, Landed, Seen, Refused, IsAnswer, IsMergeAnswer}

-- two classes merge just where no cause stands against it
abbrev pub Merging : Type 0
Merging = (all : List Entry) (a b : ℕ) → ((why_no_pair all a b ≡ None) × ((c : ℕ) → IsBetween all a b c → ⊥)) ↔ IsLegalMerge all a b

never : Merging → (all : List Entry) (a b : ℕ) (cause : Refusal) → IsLegalMerge all a b → IsWhyNotMerged all a b cause → ⊥
never law all a b cause legal (sooner some) = let none = ((law all a b).1 legal).0 in absurd (cc)
never law all a b cause legal (between {n = n} none least) = ((law all a b).1 legal).1 n least.is

one_cause : (all : List Entry) (a b : ℕ) (c d : Refusal) → IsWhyNotMerged all a b c → IsWhyNotMerged all a b d → c ≡ d
one_cause all a b c d (sooner p) (sooner q) = cc
one_cause all a b c d (sooner p) (between none least) = absurd (cc)
one_cause all a b c d (between none least) (sooner q) = absurd (cc)
one_cause all a b c d (between {n = n} none least) (between {n = m} nothing other) =
    let low : n ≤ m = least.least m other.is in
    let high : m ≤ n = other.least n least.is in
    let same : n ≡ m = omega (arith, low, high) in ap (with_number kind.WouldCycle) same

merge_single : Merging → (run : Execution) (a b : ℕ) (x y : Answer) → IsMergeAnswer run a b x → IsMergeAnswer run a b y → x ≡ y
merge_single law run a b (Made n) y p q = absurd p
merge_single law run a b (Sent block numbers image) y p q = absurd p
merge_single law run a b (Landed block numbers) y p q = absurd p
merge_single law run a b (Seen without cached) y p q = absurd p
merge_single law run a b (Merged n) (Made m) p q = absurd q
merge_single law run a b (Merged n) (Sent block numbers image) p q = absurd q
merge_single law run a b (Merged n) (Landed block numbers) p q = absurd q
merge_single law run a b (Merged n) (Seen without cached) p q = absurd q
merge_single law run a b (Merged n) (Merged m) p q = ap Merged (p.1 ∙ sym q.1)
merge_single law run a b (Merged n) (Refused cause) p q = absurd (never law (entries_of run) a b cause p.0 q)
merge_single law run a b (Refused cause) (Made m) p q = absurd q
merge_single law run a b (Refused cause) (Sent block numbers image) p q = absurd q
merge_single law run a b (Refused cause) (Landed block numbers) p q = absurd q
merge_single law run a b (Refused cause) (Seen without cached) p q = absurd q
merge_single law run a b (Refused cause) (Merged m) p q = absurd (never law (entries_of run) a b cause q.0 p)
merge_single law run a b (Refused c) (Refused d) p q = ap Refused (one_cause (entries_of run) a b c d p q)

pub single : Merging → (run : Execution) (ask : Ask) (a b : Answer) → IsAnswer run ask a → IsAnswer run ask b → a ≡ b
single law run (Create block start bytes after undo) a b p q = p ∙ sym q
single law run (Merge x y) a b p q = merge_single law run x y a b p q
single law run (Send block) a b p q = p ∙ sym q
single law run (Complete block) a b p q = p ∙ sym q
single law run (View block moves start len) a b p q = p ∙ sym q

-- What a get tells.
use Rattle.std.proofs.Common.{◌≡◌, ◌∙◌, ℕ, pos, List, length, refl, sym, ap, subst, inl, inr, Option, Some, None}
use Rattle.patch_model.specs.Refusal.{code_of}
use Rattle.patch_model.specs.declared.refusals.Refusal.{Refusal}
use Rattle.patch_model.specs.declared.refusals.RefusalKind.{RefusalKind}
use Rattle.patch_cache.specs.Refusals.{IsCause}
use Rattle.patch_recovery.specs.Ledger.{value_in}
use Rattle.patch_history.specs.History.{History, standing_of}
use Rattle.patch_history.specs.Refusing.{why_no_key}
use Rattle.patch_handles.specs.declared.answers.Answer.{Answer}
use Rattle.patch_handles.specs.Answering.{number_of}
use Rattle.patch_handles.specs.Copying.{copied, answer_copying}
use Rattle.patch_c.specs.Reading.{value_told, get_told, HasGot}

-- where the key may be one, what is told of its value, or that it has none
told_so : (h : History) (key into : List ℕ) (len : ℕ) (found : Option (List ℕ)) → (why_no_key key ≡ None) × (found ≡ value_in (standing_of h).map.entries key)
    → HasGot h key into len (value_told found into len)
told_so h key into len found got =
    inl (subst (λ why. value_told found into len ≡ get_told why (value_in (standing_of h).map.entries key) into len) (sym got.0)
    (ap (λ o. value_told o into len) got.1))

pub got_so : (h : History) (key value bytes into : List ℕ) (len : ℕ) (answer : Answer) (into_now : List ℕ) (len_now : ℕ)
    → (why_no_key key ≡ None) × (Some value ≡ value_in (standing_of h).map.entries key) → bytes ≡ value
    → answer ≡ answer_copying bytes into → into_now ≡ copied bytes into → len_now ≡ length bytes → HasGot h key into len (number_of answer, into_now, len_now)
got_so h key value bytes into len answer into_now len_now got is answer_is into_is len_is =
    let told = told_so h key into len (Some bytes) (got.0, ap (λ v. Some v) is ∙ got.1) in
    subst (λ told. HasGot h key into len told) (λ i. (number_of (sym answer_is i), sym into_is i, sym len_is i)) told

pub absent_so : (h : History) (key into : List ℕ) (len : ℕ) → (why_no_key key ≡ None) × (None ≡ value_in (standing_of h).map.entries key)
    → HasGot h key into len (value_told None into len)
absent_so h key into len got = told_so h key into len None got

-- or why it is refused
pub refused_so : (h : History) (key into : List ℕ) (len : ℕ) (cause : Refusal) (why : RefusalKind) → IsCause (why_no_key key) cause → why ≡ cause.kind
    → HasGot h key into len (pos (code_of why), into, len)
refused_so h key into len cause why is kind_is = by-cause (why_no_key key) refl is
  where
    by-cause : (o : Option Refusal) → why_no_key key ≡ o → IsCause o cause → HasGot h key into len (pos (code_of why), into, len)
    by-cause None none out = inr (none, λ i. (pos (code_of ((kind_is ∙ ap (λ (r : Refusal). r.kind) out) i)), into, len))
    by-cause (Some first) some same =
        inl (subst (λ o. (pos (code_of why), into, len) ≡ get_told o (value_in (standing_of h).map.entries key) into len) (sym some)
        (λ i. (pos (code_of ((kind_is ∙ ap (λ (r : Refusal). r.kind) same) i)), into, len)))

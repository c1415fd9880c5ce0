-- How a call ends, from how its last writing ended.
use Rattle.std.proofs.Common.{ℕ, List, sym, subst, inl, inr}
use Rattle.va_command.specs.declared.status.Status.{Status}
use Rattle.va_command.specs.declared.status.Status.TheVariants.{Done, Refused, Usage, NoFile, ReadFault, WriteFault, NoMemory}
use Rattle.va_command.specs.Answers.{Seen, IsUntouched, IsComplaint, Ends, EndsOutput, EndsReason}

-- an output was written
pub ends_delivered : (due : Status → List ℕ → Type 0) (out err : Seen) (text : List ℕ) (result : Status)
    → due Done text → IsUntouched err → EndsOutput text out result → Ends due out err result
ends_delivered due out err text Done d u e = ((text, d, e), u)
ends_delivered due out err text WriteFault d u e = inl ((text, d, e.0, e.1, e.2), u)
ends_delivered due out err text NoMemory d u e = inr (inl ((text, d, e.0, e.1), u))
ends_delivered due out err text Refused d u e = absurd e
ends_delivered due out err text Usage d u e = absurd e
ends_delivered due out err text NoFile d u e = absurd e
ends_delivered due out err text ReadFault d u e = absurd e

-- a reason was written
pub ends_complained : (due : Status → List ℕ → Type 0) (out err : Seen) (text : List ℕ) (status result : Status)
    → due status text → IsComplaint status → IsUntouched out → EndsReason text status err result → Ends due out err result
ends_complained due out err text status Done d c u e = absurd (subst IsComplaint (sym e.0) c)
ends_complained due out err text status WriteFault d c u e = inr ((text, (status, c, d), e.0, e.1, e.2), u)
ends_complained due out err text status NoMemory d c u e = inr (inr ((text, (status, c, d), e.0, e.1), u))
ends_complained due out err text status Refused d c u e = ((text, subst (λ s. due s text) (sym e.0) d, e.1), u)
ends_complained due out err text status Usage d c u e = ((text, subst (λ s. due s text) (sym e.0) d, e.1), u)
ends_complained due out err text status NoFile d c u e = ((text, subst (λ s. due s text) (sym e.0) d, e.1), u)
ends_complained due out err text status ReadFault d c u e = ((text, subst (λ s. due s text) (sym e.0) d, e.1), u)

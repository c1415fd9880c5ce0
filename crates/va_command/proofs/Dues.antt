-- What is due for a request is due for the words that make it.
use Rattle.std.proofs.Common.{◌≡◌, ℕ, List, sym, subst}
use Rattle.std.specs.Prelude.{Option, Result, Ok, Err, IfOk}
use Rattle.alg_laws.specs.Operations.{Operations}
use Rattle.va_io.specs.Outside.{Holdings}
use Rattle.va_preproc.specs.Answers.{Seen as FilesSeen}
use Rattle.va_command.specs.declared.status.Status.{Status}
use Rattle.va_command.specs.declared.status.Status.TheVariants.{Done, Refused, Usage, NoFile, ReadFault, WriteFault, NoMemory}
use Rattle.va_command.specs.Requests.{Request, IsRequest, Asks, AsksFirst}
use Rattle.va_command.specs.Answers.{IsDue, IsDueFor}
use Rattle.va_command.proofs.Asking.{one_request}

pub if_ok : {X Y : Type 0} (result : Result X Y) (P Q : X → Type 0) → ((x : X) → P x → Q x) → IfOk result P → IfOk result Q
if_ok (Ok x) P Q f p = f x p
if_ok (Err y) P Q f p = tt

pub is_due : {V : Type 0} (o : Operations V) (valid : V → Type 0) (holds : Option Holdings) (files : FilesSeen) (words : List (List ℕ))
    (request : Request) → IsRequest words request → (status : Status) (text : List ℕ)
    → IsDueFor holds files o valid request status text → IsDue holds files o valid words status text
is_due o valid holds files words request r Done text d = (request, r, d)
is_due o valid holds files words request r Refused text d = (request, r, d)
is_due o valid holds files words request r NoFile text d = (request, r, d)
is_due o valid holds files words request r ReadFault text d = (request, r, d)
is_due o valid holds files words request r Usage text d = absurd d
is_due o valid holds files words request r WriteFault text d = absurd d
is_due o valid holds files words request r NoMemory text d = absurd d

-- and what is asked for it is what they ask for
pub asks_words : (holds : Option Holdings) (files : FilesSeen) (words : List (List ℕ)) (request : Request) → IsRequest words request
    → AsksFirst holds files request → Asks holds files words
asks_words holds files words request r a =
    (λ other q. subst (AsksFirst holds files) (one_request words request other r q) a, λ none. absurd (none request r))

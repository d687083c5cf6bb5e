-- A contract of one `ensures` and no `requires`, where a walk's deal asks something that holds of every call. It says nothing of any crate.
-- Assumes nothing.
use seplogic.Ra.Ura.{Ura}
use base.Logic.{SProp, ent, sep, emp, via, mono_r}
use contract.Monad.{fact, fact_i}

-- where the walk ends with Q, from what the caller hands over and what is asked, it does from what the caller hands over
pub unasked_meets : {M : Type 1} (𝓤 : Ura M) (φ : Type 0) → φ → (P : SProp 𝓤) {Q : SProp 𝓤} → ent 𝓤 (sep 𝓤 P (fact 𝓤 φ)) Q → ent 𝓤 (sep 𝓤 P (emp 𝓤)) Q
unasked_meets 𝓤 φ asked P met = via 𝓤 _ (mono_r 𝓤 P (fact_i 𝓤 φ (emp 𝓤) asked)) met

-- The input's first bytes, and the lots that are read behind them, up to its end. Assumes nothing.
use mathlib.Core.Path.{◌≡◌, refl, sym, ◌∙◌, ap}
use mathlib.Core.List.{List, [], ◌++◌}
use Rattle.std.specs.Prelude.{Result, Ok, Err}
use Prim.Native.Nat.{ℕ, ◌+◌, ◌-◌, ◌^◌, ◌≤◌, ◌<◌}
use native.Mathlib.Omega.{arith}
use lib.Ieee.{Float}
use lib.ListN.{length, take, length-append, length-take}
use lib.Seq.{take_all}
use Rattle.scope.specs.Program.{read_input}
use Rattle.line.specs.declared.Given.{Given}
use Rattle.deck.specs.declared.BadLine.{BadLine}
use Rattle.deck.specs.Walk.{State, start, Run, run, fed}
use Rattle.deck.specs.Meaning.{Says, Right, after, Said}
use Rattle.deck.proofs.Fed.{fed_lots}
use Rattle.reading.specs.Taken.{Fed, Begun, Rest, Rested, Whole, Taken}
use Rattle.reading.specs.Told.{ended, longer, Told, of}
use Rattle.reading.specs.declared.Unreadable.{Unreadable}

abbrev pub fed_is : {s t : State} {cells cells' : List Float} {forbidden forbidden' : List ℕ} (bytes : List ℕ) → length bytes ≤ 65536
    → t ≡ (fed (run s cells forbidden) bytes).state → cells' ≡ (fed (run s cells forbidden) bytes).cells → forbidden' ≡ (fed (run s cells forbidden) bytes).forbidden
    → Fed s cells forbidden t cells' forbidden'
fed_is bytes few a b c = record { bytes = bytes; few = few; is = rw (a, b, c) }

pub fed_no : (x : Run) → fed x [] ≡ x
unfolding fed
fed_no x = refl

-- ---- lots, from a state on
module _ {s₀ : State} {cells₀ : List Float} {forbidden₀ : List ℕ} where
  abbrev pub begun_none : Begun s₀ cells₀ forbidden₀ s₀ cells₀ forbidden₀ 0
  begun_none = record { bytes = []; few = omega arith; is = sym (fed_no _) }

  module _ {s : State} {cells : List Float} {forbidden : List ℕ} {turns : ℕ} (b : Begun s₀ cells₀ forbidden₀ s cells forbidden turns) where
    abbrev pub begun_more : {t : State} {cells' : List Float} {forbidden' : List ℕ} → Fed s cells forbidden t cells' forbidden' → Begun s₀ cells₀ forbidden₀ t cells' forbidden' (turns + 1)
    begun_more f =
        record {
          bytes = b.bytes ++ f.bytes;
          few = omega (arith, b.few, f.few, length-append b.bytes f.bytes);
          is = f.is ∙ ap (λ (x : Run). fed x f.bytes) b.is ∙ sym (fed_lots (run s₀ cells₀ forbidden₀) b.bytes f.bytes);
        }

    abbrev pub begun_rest : {r : Result Given BadLine} {cells' : List Float} {forbidden' : List ℕ} → turns ≤ 2 ^ 47 → Right s r → cells' ≡ cells → forbidden' ≡ forbidden → Rest s₀ cells₀ forbidden₀ cells' forbidden' r
    begun_rest most right c f = record { bytes = b.bytes; few = omega (arith, b.few); state = s; is = rw (c, f) b.is; right = right }

-- ---- the whole input: s is the state after the first n bytes that stand in the buffer
module _ (kept : List ℕ) (cells₀ : List Float) (forbidden₀ : List ℕ) (short : length kept ≤ 65536) where
  -- a reading of bytes that lead to it
  pub says : (bytes : List ℕ) → length bytes < 2 ^ 64 - 2 → {s : State} {cells : List Float} {forbidden : List ℕ} (read : Result Given BadLine)
      → run s cells forbidden ≡ after bytes cells₀ forbidden₀ → Right s read → 2048 ≤ length cells₀ → 128 ≤ length forbidden₀ → Says cells₀ forbidden₀ read cells forbidden (read_input bytes)
  says bytes few read is right room room₂ =
      rw (ap (λ (x : Run). x.cells) is, ap (λ (x : Run). x.forbidden) is) (right bytes cells₀ forbidden₀ few room room₂ (ap (λ (x : Run). x.state) is))

  module _ (n : ℕ) (few : n ≤ length kept) (s : State) (cells : List Float) (forbidden : List ℕ) (is : run s cells forbidden ≡ after (take n kept) cells₀ forbidden₀) where
    -- the input ended there
    pub whole_ended : {read : Result Given BadLine} → Right s read → Whole kept cells₀ forbidden₀ cells forbidden read
    whole_ended right = record { bytes = take n kept; held = ended n few; says = says (take n kept) (rw length-take (omega arith)) _ is right }

    -- it went on
    pub says_longer : length kept ≤ n → {cells' : List Float} {forbidden' : List ℕ} {read : Result Given BadLine} (r : Rest s cells forbidden cells' forbidden' read)
        → 2048 ≤ length cells₀ → 128 ≤ length forbidden₀ → Says cells₀ forbidden₀ read cells' forbidden' (read_input (kept ++ r.bytes))
    says_longer full r =
        let all = take_all n kept full in
        says (kept ++ r.bytes) (rw length-append (omega (arith, r.few))) _
        (r.is ∙ ap (λ (x : Run). fed x r.bytes) (rw all at is) ∙ sym (fed_lots (run start cells₀ forbidden₀) kept r.bytes)) r.right

    whole_longer : length kept ≤ n → {cells' : List Float} {forbidden' : List ℕ} {read : Result Given BadLine} → Rest s cells forbidden cells' forbidden' read → Whole kept cells₀ forbidden₀ cells' forbidden' read
    whole_longer full r = record { bytes = kept ++ r.bytes; held = longer r.bytes; says = says_longer full r }

    pub whole_rested : length kept ≤ n → (cells' : List Float) (forbidden' : List ℕ) (r : Result (Result Given BadLine) Unreadable) → Rested s cells forbidden cells' forbidden' r → Taken kept cells₀ forbidden₀ cells' forbidden' r
    whole_rested full cells' forbidden' (Ok read) rest = whole_longer full rest
    whole_rested full cells' forbidden' (Err e) rest = tt

-- a text that is right for the reading answers the bytes
pub told_of : {P : List ℕ → List ℕ → Type 0} {kept : List ℕ} {cells₀ : List Float} {forbidden₀ : List ℕ} {cells : List Float} {forbidden : List ℕ} {read : Result Given BadLine} {text : List ℕ}
    → 2048 ≤ length cells₀ → 128 ≤ length forbidden₀ → Whole kept cells₀ forbidden₀ cells forbidden read → Said P read cells forbidden text → Told P kept text
told_of {cells₀ = cells₀} {forbidden₀ = forbidden₀} room room₂ w said = of w.bytes w.held (said w.bytes cells₀ forbidden₀ room room₂ (w.says room room₂))

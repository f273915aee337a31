-- Words that ask for something.
use Rattle.std.proofs.Common.{◌≡◌, ℕ, true, List, [], ◌∷◌, length, get_or, Option, Some, None, IfNone, arith, codes}
use Rattle.host_threads.specs.Turns.{is_schedule}
use Rattle.alc_program.specs.Words.{Request, Asks}
use Rattle.alc_program.specs.Words.Request.{steps, inspect}

-- a list of three elements is these
pub three : {A : Type 0} (xs : List A) (x y z : A) → length xs ≡ 3 → x ≡ get_or xs 0 x → y ≡ get_or xs 1 y → z ≡ get_or xs 2 z → xs ≡ x ∷ y ∷ z ∷ []
three (a ∷ b ∷ c ∷ []) x y z h p q r = cc
three [] x y z h p q r = cc
three (a ∷ []) x y z h p q r = cc
three (a ∷ b ∷ []) x y z h p q r = cc
three (a ∷ b ∷ c ∷ d ∷ ds) x y z h p q r = absurd (omega arith)

-- a list of two elements is these
pub two : {A : Type 0} (xs : List A) (x y : A) → length xs ≡ 2 → x ≡ get_or xs 0 x → y ≡ get_or xs 1 y → xs ≡ x ∷ y ∷ []
two (a ∷ b ∷ []) x y h p q = cc
two [] x y h p q = cc
two (a ∷ []) x y h p q = cc
two (a ∷ b ∷ c ∷ cs) x y h p q = absurd (omega arith)

pub asks_steps : (words : List (List ℕ)) (verb file schedule : List ℕ) →
    words ≡ verb ∷ file ∷ schedule ∷ [] → verb ≡ codes "steps" → true ≡ is_schedule schedule → Asks words (steps file schedule)
asks_steps words verb file schedule e v s = (cc, cc)

pub asks_inspect : (words : List (List ℕ)) (verb file : List ℕ) →
    words ≡ verb ∷ file ∷ [] → verb ≡ codes "inspect" → Asks words (inspect file)
asks_inspect words verb file e v = cc

-- words that ask for neither
pub asks_nothing : (words : List (List ℕ)) → ((file schedule : List ℕ) → ¬ Asks words (steps file schedule)) →
    ((file : List ℕ) → ¬ Asks words (inspect file)) → (request : Request) → ¬ Asks words request
asks_nothing words no_steps no_inspect (steps file schedule) asks = no_steps file schedule asks
asks_nothing words no_steps no_inspect (inspect file) asks = no_inspect file asks

pub unless_asked : {V : Type 0} (o : Option V) (words : List (List ℕ)) → ((file schedule : List ℕ) → ¬ Asks words (steps file schedule)) →
    IfNone o ((file : List ℕ) → ¬ Asks words (inspect file)) → IfNone o ((request : Request) → ¬ Asks words request)
unless_asked None words no_steps no_inspect = asks_nothing words no_steps no_inspect
unless_asked (Some v) words no_steps no_inspect = tt

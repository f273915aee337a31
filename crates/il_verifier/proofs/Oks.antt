-- Clauses on results.
use Rattle.std.proofs.Common.{Result, Ok, Err}
use Rattle.std.specs.Result.{IfOk, OnOk}

pub on-ok : {T E : Type 0} (r : Result T E) {P : Type 0} → P → OnOk r P
on-ok (Ok x) h = h
on-ok (Err e) h = tt

pub on-then : {T E : Type 0} (r : Result T E) {P Q : Type 0} → (P → Q) → OnOk r P → OnOk r Q
on-then (Ok x) f h = f h
on-then (Err e) f h = tt

pub if-then : {T E : Type 0} (r : Result T E) {P Q : T → Type 0} → ((x : T) → P x → Q x) → IfOk r P → IfOk r Q
if-then (Ok x) f h = f x h
if-then (Err e) f h = tt

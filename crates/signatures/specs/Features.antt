-- The names of the features (own).
use Rattle.std.specs.Prelude.{ℕ, List, [], ◌∷◌, codes}
use Rattle.signatures.specs.declared.feature.Feature.{Feature}
use Rattle.signatures.specs.declared.feature.Feature.TheVariants.{Float, ValueType, Pointer, ArrayShape, GenericMethod, Varargs, Box, Delegate, Jump, Prefix, Handle, Size, Break, Filter, ExceptionClause, Native, MultiModule, TypeInitialiser, ObjectStatic, GenericEntry, NotBuilt}

-- the name of a feature, in ASCII
abbrev pub text : Feature → List ℕ
text Float = codes "float"
text ValueType = codes "value-type"
text Pointer = codes "pointer"
text ArrayShape = codes "array-shape"
text GenericMethod = codes "generic-method"
text Varargs = codes "varargs"
text Box = codes "box"
text Delegate = codes "delegate"
text Jump = codes "jump"
text Prefix = codes "prefix"
text Handle = codes "handle"
text Size = codes "size"
text Break = codes "break"
text Filter = codes "filter"
text ExceptionClause = codes "exception-clause"
text Native = codes "native"
text MultiModule = codes "multi-module"
text TypeInitialiser = codes "type-initialiser"
text ObjectStatic = codes "object-static"
text GenericEntry = codes "generic-entry"
text NotBuilt = codes "not-built"

-- each feature once
abbrev pub features : List Feature
features =
    Float ∷ ValueType ∷ Pointer ∷ ArrayShape ∷ GenericMethod ∷ Varargs ∷ Box ∷ Delegate ∷ Jump ∷
    Prefix ∷ Handle ∷ Size ∷ Break ∷ Filter ∷ ExceptionClause ∷ Native ∷ MultiModule ∷
    TypeInitialiser ∷ ObjectStatic ∷ GenericEntry ∷ NotBuilt ∷ []

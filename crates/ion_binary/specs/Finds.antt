-- What is seen of a part in the code: where it stands, and what it is.
use Rattle.std.specs.Prelude.{List, ℕ, ◌<◌}
use Rattle.ion_binary.specs.declared.body.Body.{Body}
use Rattle.ion_binary.specs.declared.value.TypedValue as typed
use Rattle.ion_binary.specs.declared.value.TypedValue.TheVariants as kinds
use Rattle.ion_binary.specs.Bodies.{as_scalar, IsBodyTypeCode}
use Rattle.ion_binary.specs.Descriptor.{Shape, null, bool, nop_pad, wrapper, body, container, sorted, marker, float, illegal}
use Rattle.ion_binary.specs.Reading.{TypedValue, a_nop_pad, a_marker, a_scalar, a_container}

-- a scalar stands in a body, and the bytes of a string or lob beside it
abbrev pub as_typed_value : List ℕ → Body → typed.TypedValue → TypedValue
as_typed_value text scalar kinds.NopPad = a_nop_pad
as_typed_value text scalar kinds.Marker = a_marker
as_typed_value text scalar kinds.Scalar = a_scalar (as_scalar text scalar)
as_typed_value text scalar (kinds.Container kind end) = a_container kind end

-- a shape that descriptors have: its length code is below 15, and a scalar's type code is one that has bodies
abbrev pub IsOfDescriptor : Shape → Type 0
IsOfDescriptor (nop_pad length_code) = length_code < 15
IsOfDescriptor (wrapper length_code) = length_code < 15
IsOfDescriptor (body type_code length_code) = IsBodyTypeCode type_code × (length_code < 15)
IsOfDescriptor (container kind length_code) = length_code < 15
IsOfDescriptor (null type) = Unit {0}
IsOfDescriptor (bool truth) = Unit {0}
IsOfDescriptor sorted = Unit {0}
IsOfDescriptor marker = Unit {0}
IsOfDescriptor (float length_code) = length_code < 15
IsOfDescriptor illegal = Unit {0}

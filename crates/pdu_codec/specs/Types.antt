-- The numbers of the types of PDUs (PCP's PDU headers), from 0x7000 on.
use Rattle.std.specs.Prelude.{ℕ, Option, Some, None, if◌then◌else◌, ◌==◌}
use Rattle.pdu_codec.specs.declared.pdu.Pdu.{Pdu}
use Rattle.pdu_codec.specs.declared.pdu.Pdu.TheVariants as pdus
use Rattle.pdu_codec.specs.declared.types.PduType.{PduType}
use Rattle.pdu_codec.specs.declared.types.PduType.TheVariants as types

abbrev pub code_of_type : PduType → ℕ
code_of_type types.Error = 28672
code_of_type types.Result = 28673
code_of_type types.Profile = 28674
code_of_type types.Fetch = 28675
code_of_type types.DescReq = 28676
code_of_type types.Desc = 28677
code_of_type types.InstanceReq = 28678
code_of_type types.Instance = 28679
code_of_type types.Creds = 28684
code_of_type types.PmnsIds = 28685
code_of_type types.PmnsNames = 28686
code_of_type types.PmnsChild = 28687
code_of_type types.PmnsTraverse = 28688

abbrev pub type_of_code : ℕ → Option PduType
type_of_code n =
    if n == 28672 then Some types.Error else
    if n == 28673 then Some types.Result else
    if n == 28674 then Some types.Profile else
    if n == 28675 then Some types.Fetch else
    if n == 28676 then Some types.DescReq else
    if n == 28677 then Some types.Desc else
    if n == 28678 then Some types.InstanceReq else
    if n == 28679 then Some types.Instance else
    if n == 28684 then Some types.Creds else
    if n == 28685 then Some types.PmnsIds else
    if n == 28686 then Some types.PmnsNames else
    if n == 28687 then Some types.PmnsChild else
    if n == 28688 then Some types.PmnsTraverse else None

-- the type of a PDU
abbrev pub type_of : Pdu → PduType
type_of (pdus.Error code) = types.Error
type_of (pdus.Result r) = types.Result
type_of (pdus.Profile context global parts) = types.Profile
type_of (pdus.Fetch context sec usec pmids) = types.Fetch
type_of (pdus.DescReq pmid) = types.DescReq
type_of (pdus.Desc d) = types.Desc
type_of (pdus.InstanceReq indom instance) = types.InstanceReq
type_of (pdus.Instance indom pairs) = types.Instance
type_of pdus.Creds = types.Creds
type_of (pdus.PmnsIds status pmids) = types.PmnsIds
type_of (pdus.PmnsNames status names) = types.PmnsNames
type_of (pdus.PmnsChild name) = types.PmnsChild
type_of (pdus.PmnsTraverse name) = types.PmnsTraverse

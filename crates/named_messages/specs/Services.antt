-- The numbers of the services that libqmi describes.
-- Source: the enum QmiService in libqmi's src/libqmi-glib/qmi-enums.h.
use Rattle.std.specs.Prelude.{ℕ, List, Option, Some, None, bytes_eq, codes, if◌then◌else◌}

-- the number of the service of a name
unfoldable pub service_called : List ℕ → Option ℕ
service_called name =
    if bytes_eq name (codes "CTL") then Some 0
    else if bytes_eq name (codes "WDS") then Some 1
    else if bytes_eq name (codes "DMS") then Some 2
    else if bytes_eq name (codes "NAS") then Some 3
    else if bytes_eq name (codes "QOS") then Some 4
    else if bytes_eq name (codes "WMS") then Some 5
    else if bytes_eq name (codes "PDS") then Some 6
    else if bytes_eq name (codes "VOICE") then Some 9
    else if bytes_eq name (codes "UIM") then Some 0x0b
    else if bytes_eq name (codes "PBM") then Some 0x0c
    else if bytes_eq name (codes "LOC") then Some 0x10
    else if bytes_eq name (codes "SAR") then Some 0x11
    else if bytes_eq name (codes "WDA") then Some 0x1a
    else if bytes_eq name (codes "PDC") then Some 0x24
    else if bytes_eq name (codes "DSD") then Some 0x2a
    else if bytes_eq name (codes "DPM") then Some 0x2f
    else if bytes_eq name (codes "OMA") then Some 0xe2
    else if bytes_eq name (codes "FOX") then Some 0xe3
    else if bytes_eq name (codes "GMS") then Some 0xe7
    else if bytes_eq name (codes "GAS") then Some 0xe8
    else None

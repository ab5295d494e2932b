-- osdp_PDID (0x45), R101.4, §7.4: the vendor's OUI of 3 bytes, model, version, serial number u32, and the firmware's major, minor and build number.
use Rattle.std.specs.Prelude.{[], ◌∷◌, ◌++◌}
use Rattle.payload_util.specs.Prelude.{byte_at, u32_at, u32_bytes, Form}
use Rattle.plain.specs.Exact.{exact}
use Rattle.plain.specs.declared.pdid.PdId.{PdId}

abbrev pub pd_id : Form
pd_id = exact {A = PdId} 0x45 12
    (λ p. record {
      oui_0 = byte_at p 0;
      oui_1 = byte_at p 1;
      oui_2 = byte_at p 2;
      model = byte_at p 3;
      version = byte_at p 4;
      serial = u32_at p 5;
      firmware_major = byte_at p 9;
      firmware_minor = byte_at p 10;
      firmware_build = byte_at p 11;
    })
    (λ r.
    r.oui_0 ∷ r.oui_1 ∷ r.oui_2 ∷ r.model ∷ r.version ∷ u32_bytes r.serial
    ++ r.firmware_major ∷ r.firmware_minor ∷ r.firmware_build ∷ [])
